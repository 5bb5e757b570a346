use Rattle.tm_check.proofs.Shifts.{IsShifting}
use Rattle.tm_check.proofs.checks.copy_slots.Given as goal

abbrev pub invariant-loop-index : goal.invariant-loop-index
invariant-loop-index l = IsShifting l.from l.fn.into l.into l.index
