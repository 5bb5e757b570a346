use Rattle.std.proofs.Common.{subst}
use Rattle.tm_system.specs.Replaying.{replayed_task}
use Rattle.tm_replay.specs.Answers.{TellsAll}
use Rattle.tm_workers.specs.Shares.{replayed_share}
use Rattle.tm_workers.proofs.Shares.{share_halves}
use Rattle.tm_workers.proofs.workers.+fn-tracks_by-join+arg2+fn-tracks_by-join+arg3+tracks_by.Goals as goal

pub returns : goal.returns
returns g t c =
    let replays = replayed_share c.args.image.now c.args.window.now c.args.point in
    subst (λ all. TellsAll all c.in_order.result)
    (share_halves c.args.share c.in-Some.low c.in-Some.high (replayed_task c.args.image.now c.args.window.now c.args.point)
    c.requires.share.rising c.in-Some.ensures)
    (c.in_order.ensures (replays c.in-Some.low) (replays c.in-Some.high) c.join-first.ensures.first c.join-first.ensures.second)
