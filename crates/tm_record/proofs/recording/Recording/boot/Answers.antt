use Rattle.std.proofs.Common.{arith}
use Rattle.tm_record.proofs.Ending.{booting_starts, booting_size, booting_goes_on, booting_ends, closed_recorded}
use Rattle.tm_record.proofs.recording.Recording.boot.Goals as goal

pub loop-task-init : goal.loop-task-init
loop-task-init c = booting_starts _ _ _ _ c.in_ok-machine.ensures.boot c.shape.ensures.value c.in_ok-window.ensures

pub note_checkpoint-requires-clause-size : goal.note_checkpoint-requires-clause-size
note_checkpoint-requires-clause-size c =
    booting_size _ _ _ _ c.tasks-tasks.ensures.sound c.tasks-tasks-in-loop-task.ensures.window c.loop-task.invariant (omega (arith, c.loop-task.invariant.at.tasks))

pub loop-task-preserved : goal.loop-task-preserved
loop-task-preserved c =
    booting_goes_on _ _ _ _ _ c.tasks-tasks-in-loop-task.ensures.window c.loop-task.invariant (omega (arith, c.loop-task.invariant.at.tasks)) c.note_checkpoint.ensures

pub returns : goal.returns
returns c =
    closed_recorded _ _ _ _ _ (booting_ends _ _ _ _ c.loop-task.invariant (omega (arith, c.loop-task.invariant.at.tasks))) c.close.ensures
