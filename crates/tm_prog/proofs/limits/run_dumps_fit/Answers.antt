use Rattle.tm_prog.proofs.ToldRuns.{run_dumps_fit}
use Rattle.tm_prog.proofs.limits.run_dumps_fit.Goals as goal

pub returns : goal.returns
returns c = run_dumps_fit
