use Rattle.std.proofs.Common.{◌≡◌, ℕ, ◌<◌, length, Some, slice_get}
use Rattle.tm_task.specs.Standing.{booted_task}
use Rattle.tm_image.specs.Image.{entry_of, words_of}
use Rattle.tm_system.proofs.machine.booted_tasks.Given as goal

abbrev pub invariant-loop-task : goal.invariant-loop-task
invariant-loop-task l = record {
  number : length l.tasks.items ≡ l.task;
  each : (k : ℕ) → k < l.task → slice_get l.tasks.items k ≡ Some (booted_task (entry_of l.image k) (words_of l.image k));
}
