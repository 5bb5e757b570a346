use Rattle.tm_kernel.proofs.Rescheduling.{runs_the_pick, runs_a_task, rescheduling_same_rest, goes_on_running}
use Rattle.tm_kernel.proofs.laws.rescheduling_runs_the_pick.Goals as goal

pub returns : goal.returns
returns c = record { pick = runs_the_pick; task = runs_a_task; rest = rescheduling_same_rest; goes_on = goes_on_running }
