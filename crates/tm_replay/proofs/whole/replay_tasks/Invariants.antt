use Rattle.tm_system.specs.Replaying.{replayed_task, all_below}
use Rattle.tm_replay.specs.Answers.{AreTold}
use Rattle.tm_replay.proofs.whole.replay_tasks.Given as goal

abbrev pub invariant-loop-task : goal.invariant-loop-task
invariant-loop-task l = AreTold (all_below l.task (replayed_task l.image l.window l.point)) l.tracks
