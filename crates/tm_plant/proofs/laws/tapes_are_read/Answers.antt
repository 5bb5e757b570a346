use Rattle.tm_plant.proofs.Tapes.{tape_read}
use Rattle.tm_plant.proofs.laws.tapes_are_read.Goals as goal

pub returns : goal.returns
returns c = tape_read
