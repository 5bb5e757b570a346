use Rattle.std.proofs.Common.{sym, length, Ok, Err}
use Rattle.tm_system.specs.Replaying.{replayed_task}
use Rattle.tm_replay.proofs.Wholes.{told_tracks, all_answers}
use Rattle.tm_workers.proofs.Shares.{whole_told}
use Rattle.tm_workers.proofs.workers.replay_with.Goals as goal

pub tracks_by-requires-clause-ready : goal.tracks_by-requires-clause-ready
tracks_by-requires-clause-ready g c κs within = record { formed = c.requires.formed; accepted = sym c.in_ok-accepts.ensures }

pub replay_of-requires-clause-tasks : goal.replay_of-requires-clause-tasks
replay_of-requires-clause-tasks g c =
    told_tracks (length c.args.window.now.shape.words) (replayed_task c.args.image.now c.args.window.now c.args.point) c.in-Ok.tracks
    (whole_told c.args.image.now c.args.window.now c.args.point c.tasks.result c.args.workers (Ok c.in-Ok.tracks) c.tasks.ensures.tasks c.in-Ok.ensures)

pub returns-in-Ok : goal.returns-in-Ok
returns-in-Ok g c =
    c.replay_of.ensures.answers c.args.image.now
    (whole_told c.args.image.now c.args.window.now c.args.point c.tasks.result c.args.workers (Ok c.in-Ok.tracks) c.tasks.ensures.tasks c.in-Ok.ensures)

pub returns-in-Err : goal.returns-in-Err
returns-in-Err g c =
    all_answers c.args.image.now c.args.window.now c.args.point c.in-Err.fault (sym c.in_ok-accepts.ensures)
    (whole_told c.args.image.now c.args.window.now c.args.point c.tasks.result c.args.workers (Err c.in-Err.fault) c.tasks.ensures.tasks c.in-Err.ensures)
