use Rattle.tm_widths.proofs.Telling.{dumps_tell_runs}
use Rattle.tm_widths.proofs.legible.dumps_tell_runs.Goals as goal

pub returns : goal.returns
returns c = dumps_tell_runs
