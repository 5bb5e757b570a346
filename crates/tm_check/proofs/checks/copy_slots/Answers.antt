use Rattle.std.proofs.Common.{arith, rules}
use Rattle.tm_check.proofs.Shifts.{shifts_one}
use Rattle.tm_check.proofs.checks.copy_slots.Goals as goal

pub loop-index-preserved : goal.loop-index-preserved
loop-index-preserved c = rw c.refill.ensures (shifts_one _ _ _ _ _ c.loop-index.invariant (omega arith) (omega arith) (omega arith) (search rules))
