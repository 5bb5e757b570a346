use Rattle.tm_kernel.proofs.Rescheduling.{stop_ends}
use Rattle.tm_kernel.proofs.laws.stop_ends.Goals as goal

pub returns : goal.returns
returns c = stop_ends
