use Rattle.tm_rv.proofs.Apart.{no_word_in_two}
use Rattle.tm_rv.proofs.table.no_word_in_two_rows.Goals as goal

pub returns : goal.returns
returns c = no_word_in_two
