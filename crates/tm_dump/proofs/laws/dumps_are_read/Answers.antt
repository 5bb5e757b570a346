use Rattle.tm_dump.proofs.FoundTop.{dumps_read}
use Rattle.tm_dump.proofs.laws.dumps_are_read.Goals as goal

pub returns : goal.returns
returns c = dumps_read
