use Rattle.tm_system.proofs.Following.{scripts_are_runs, scripts_are_sound}
use Rattle.tm_system.proofs.runs.scripts_are_runs.Goals as goal

pub returns : goal.returns
returns c = record { runs = scripts_are_runs; sound = scripts_are_sound }
