use Rattle.tm_check.proofs.Shifts.{IsFilling}
use Rattle.tm_check.proofs.checks.empty_slots.Given as goal

abbrev pub invariant-loop : goal.invariant-loop
invariant-loop l = IsFilling l.slots l.cap l.words l.counter
