use Rattle.std.specs.Prelude.{◌≤◌, sum_by}
use Rattle.std.specs.List.{flat_map, zip}
use Rattle.std.proofs.Common.{◌+◌, drop, vec_len}
use Rattle.tm_dump.specs.Dump.{task_bytes}
use Rattle.tm_dump.specs.Room.{Lacks, task_room, tasks_room}
use Rattle.tm_dump.proofs.body.put_tasks.Given as goal

abbrev pub invariant-loop-task : goal.invariant-loop-task
invariant-loop-task l = record {
  written : Lacks l.fn.into l.into (flat_map task_bytes (zip l.window.logs l.window.checks)) (flat_map task_bytes (drop l.task (zip l.window.logs l.window.checks)));
  len : vec_len l.into + sum_by task_room (drop l.task (zip l.window.logs l.window.checks)) ≤ vec_len l.fn.into + tasks_room l.window;
}
