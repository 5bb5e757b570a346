use Rattle.std.proofs.Common.{◌≡◌, length}
use Rattle.tm_system.specs.Telling.{below}
use Rattle.tm_prog.specs.Teller.{state_in}
use Rattle.tm_prog.proofs.ending.tail.Given as goal

abbrev pub invariant-loop-task : goal.invariant-loop-task
invariant-loop-task l = (length l.at.items ≡ l.task) × (l.state.items ≡ below l.task (state_in l.machine))
