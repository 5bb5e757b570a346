use Rattle.std.proofs.Common.{arith}
use Rattle.tm_log.proofs.Copying.{copies_one}
use Rattle.tm_log.proofs.tasks.copy_logs.Goals as goal

pub loop-task-preserved : goal.loop-task-preserved
loop-task-preserved c =
    rw c.copy_from.ensures (copies_one _ _ _ _ _ c.loop-task.invariant (omega arith) (omega arith) c.index-from-task.is)
