use Rattle.tm_widths.proofs.Shortness.{dumps_of_runs_are_short}
use Rattle.tm_widths.proofs.legible.dumps_of_runs_are_short.Goals as goal

pub returns : goal.returns
returns c = dumps_of_runs_are_short
