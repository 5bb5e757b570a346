use Rattle.std.proofs.Common.{length, arith}
use Rattle.tm_system.specs.Replaying.{replayed_task}
use Rattle.tm_replay.proofs.Wholes.{told_none, told_more, tells_error}
use Rattle.tm_replay.proofs.whole.replay_tasks.Goals as goal

pub loop-task-init : goal.loop-task-init
loop-task-init c = rw c.new-tracks.ensures (told_none (replayed_task c.args.image.now c.args.window.now c.args.point))

pub returns-in-Err : goal.returns-in-Err
returns-in-Err c =
    tells_error c.loop-task.task (length c.args.window.now.shape.words) (replayed_task c.args.image.now c.args.window.now c.args.point)
    c.loop-task.tracks c.in-Err.fault c.loop-task.invariant (omega arith) c.in-Err.ensures

pub loop-task-preserved : goal.loop-task-preserved
loop-task-preserved c =
    told_more c.loop-task.task (replayed_task c.args.image.now c.args.window.now c.args.point) c.loop-task.tracks _ c.in-Ok.track
    c.loop-task.invariant c.in-Ok.ensures c.in_ok-push-in-Ok.ensures.ok
