use Rattle.std.proofs.Common.{arith}
use Rattle.tm_system.specs.Replaying.{replayed_task}
use Rattle.tm_workers.proofs.Shares.{between_none, between_more, between_error}
use Rattle.tm_workers.proofs.tracks.tracks_in_turn.Goals as goal

pub loop-task-init : goal.loop-task-init
loop-task-init g c =
    rw c.new-tracks.ensures (between_none c.args.share.start (replayed_task c.args.image.now c.args.window.now c.args.point))

pub returns-in-Err : goal.returns-in-Err
returns-in-Err g c =
    between_error c.args.share.start c.loop-task.task c.args.share.end (replayed_task c.args.image.now c.args.window.now c.args.point)
    c.loop-task.tracks c.in-Err.fault (omega arith) (omega arith) c.loop-task.invariant c.in-Err.ensures

pub loop-task-preserved : goal.loop-task-preserved
loop-task-preserved g c =
    between_more c.args.share.start c.loop-task.task (replayed_task c.args.image.now c.args.window.now c.args.point)
    c.loop-task.tracks _ c.in-Ok.track (omega arith) c.loop-task.invariant c.in-Ok.ensures c.in_ok-push-in-Ok.ensures.ok
