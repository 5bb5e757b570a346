use Rattle.tm_widths.proofs.Windows.{dumps_of_runs_are_read}
use Rattle.tm_widths.proofs.legible.dumps_of_runs_are_read.Goals as goal

pub returns : goal.returns
returns c = dumps_of_runs_are_read
