use Rattle.std.proofs.Common.{arith}
use Rattle.std.proofs.lemmas.Grind.{common_steps}
use Rattle.tm_dump.proofs.Lengths.{length-word_bytes}
use Rattle.tm_dump.proofs.fields.put_words.Goals as goal

pub put_word-requires : goal.put_word-requires
put_word-requires c = grind (arith, common_steps, length-word_bytes)
