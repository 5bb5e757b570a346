use Rattle.std.proofs.Common.{sym, length}
use Rattle.tm_system.specs.Replaying.{replayed_task}
use Rattle.tm_replay.proofs.Wholes.{told_tracks, all_answers}
use Rattle.tm_replay.proofs.whole.replay.Goals as goal

pub replay_of-requires-clause-tasks : goal.replay_of-requires-clause-tasks
replay_of-requires-clause-tasks c =
    told_tracks (length c.args.window.now.shape.words) (replayed_task c.args.image.now c.args.window.now c.args.point) c.in-Ok.tracks c.in-Ok.ensures

pub returns-in-Ok : goal.returns-in-Ok
returns-in-Ok c = c.replay_of.ensures.answers c.args.image.now c.in-Ok.ensures

pub returns-in-Err : goal.returns-in-Err
returns-in-Err c = all_answers c.args.image.now c.args.window.now c.args.point c.in-Err.fault (sym c.in_ok-accepts.ensures) c.in-Err.ensures
