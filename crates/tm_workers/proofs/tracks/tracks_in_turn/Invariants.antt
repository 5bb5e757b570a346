use Rattle.std.proofs.Common.{◌+◌, ◌-◌}
use Rattle.tm_system.specs.Replaying.{all_below, replayed_task}
use Rattle.tm_replay.specs.Answers.{AreTold}
use Rattle.tm_workers.proofs.tracks.tracks_in_turn.Given as goal

abbrev pub invariant-loop-task : goal.invariant-loop-task
invariant-loop-task g l =
    AreTold (all_below (l.task - l.fn.share.start) (λ k. replayed_task l.image l.window l.point (l.fn.share.start + k))) l.tracks
