use Rattle.tm_kernel.proofs.Padding.{priority_put}
use Rattle.tm_kernel.proofs.kernel.padded_priorities.Goals as goal

pub loop-task-preserved : goal.loop-task-preserved
loop-task-preserved c =
    priority_put c.args.tasks.now c.loop-task.task _ c.loop-task.priorities c.loop-task-test.true c.requires c.loop-task.invariant
