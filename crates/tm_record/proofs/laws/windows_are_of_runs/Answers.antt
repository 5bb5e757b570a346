use Rattle.tm_record.proofs.WindowOf.{windows_are_of_runs}
use Rattle.tm_record.proofs.laws.windows_are_of_runs.Goals as goal

pub returns : goal.returns
returns c = windows_are_of_runs
