-- What the dump of a script's run gives from a point.
use Rattle.tm_system.specs.Run.{run}
use Rattle.tm_system.proofs.Following.{scripts_are_runs}
use Rattle.tm_fidelity.proofs.Accepting.{finder_is_right}
use Rattle.tm_fidelity.proofs.Closing.{replays_are_faithful}
use Rattle.tm_widths.specs.Legible.{DumpsTellRuns}
use Rattle.tm_widths.proofs.Windows.{dumps_of_runs_are_read}

pub dumps_tell_runs : DumpsTellRuns
dumps_tell_runs image script point i f is = record {
  read = dumps_of_runs_are_read image script i f is;
  found = finder_is_right image (run image script) point i (scripts_are_runs image script i);
  faithful = replays_are_faithful image script point i;
}
