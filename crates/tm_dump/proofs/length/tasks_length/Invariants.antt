use Rattle.std.specs.Prelude.{◌≤◌, sum_by}
use Rattle.std.specs.List.{zip}
use Rattle.std.proofs.Common.{◌≡◌, ◌*◌, take}
use Rattle.tm_log.specs.Window.{task_bound}
use Rattle.tm_dump.specs.Room.{task_room}
use Rattle.tm_dump.proofs.length.tasks_length.Given as goal

abbrev pub invariant-loop-task : goal.invariant-loop-task
invariant-loop-task l = record {
  room : l.length ≡ sum_by task_room (take l.task (zip l.window.logs l.window.checks));
  few : l.length ≤ 5595152 * l.task;
  bound : l.length ≤ sum_by (task_bound l.window.shape.caps) (take l.task l.window.shape.words);
}
