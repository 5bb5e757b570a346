use Rattle.tm_kernel.proofs.Rescheduling.{arrival_latches, arrival_goes_on}
use Rattle.tm_kernel.proofs.laws.arrival_goes_on.Goals as goal

pub returns : goal.returns
returns c = record { latches = arrival_latches; goes_on = arrival_goes_on }
