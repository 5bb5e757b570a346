use Rattle.tm_kernel.proofs.Picking.{pick_somebody, pick_greatest}
use Rattle.tm_kernel.proofs.laws.pick_is_greatest.Goals as goal

pub returns : goal.returns
returns c = record { greatest = pick_greatest; somebody = pick_somebody }
