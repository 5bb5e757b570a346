use Rattle.std.proofs.Common.{◌≡◌, vec_len}
use Rattle.tm_points.specs.Epochs.{AreTasksEpochs}
use Rattle.tm_points.proofs.epochs.epochs_back.Given as goal

abbrev pub invariant-loop-task : goal.invariant-loop-task
invariant-loop-task l = (vec_len l.epochs ≡ l.task) × AreTasksEpochs l.window l.epochs.items l.task
