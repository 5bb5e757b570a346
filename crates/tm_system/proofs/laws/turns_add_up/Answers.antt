use Rattle.tm_system.proofs.Adding.{turns_add}
use Rattle.tm_system.proofs.laws.turns_add_up.Goals as goal

pub returns : goal.returns
returns c = turns_add
