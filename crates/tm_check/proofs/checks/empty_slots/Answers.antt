use Rattle.std.proofs.Common.{arith}
use Rattle.tm_check.proofs.Shifts.{fills_one}
use Rattle.tm_check.proofs.checks.empty_slots.Goals as goal

pub loop-preserved : goal.loop-preserved
loop-preserved c = rw c.push_back.ensures.items (fills_one _ _ _ _ _ c.loop.invariant (omega arith) c.in_ok-new.ensures)
