use Rattle.std.proofs.Common.{arith}
use Rattle.tm_record.proofs.Ending.{closing_goes_on}
use Rattle.tm_record.proofs.closing.close.Goals as goal

pub loop-task-preserved : goal.loop-task-preserved
loop-task-preserved c =
    closing_goes_on _ _ _ _ c.loop-task.task _ _ _
    (record { window = c.tasks-tasks.ensures.window; sound = c.running.ensures.sound; tasks = c.requires })
    c.loop-task.invariant c.task.ensures c.marker.ensures c.state.ensures (omega arith) c.set_task.ensures
