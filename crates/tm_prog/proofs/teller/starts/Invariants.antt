use Rattle.std.proofs.Common.{◌≡◌, map}
use Rattle.tm_text.specs.Views.{view_of}
use Rattle.tm_system.specs.Telling.{below}
use Rattle.tm_prog.specs.Teller.{start_in}
use Rattle.tm_prog.proofs.teller.starts.Given as goal

abbrev pub invariant-loop-task : goal.invariant-loop-task
invariant-loop-task l = map view_of l.all.items ≡ below l.task (start_in l.machine)
