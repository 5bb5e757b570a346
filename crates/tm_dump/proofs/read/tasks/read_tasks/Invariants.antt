use Rattle.std.proofs.Common.{◌≡◌, drop, length, take}
use Rattle.tm_dump.specs.Reading.{tasks_in}
use Rattle.tm_dump.specs.Made.{AreOf}
use Rattle.tm_dump.proofs.Fronts.{with_fronts}
use Rattle.tm_dump.proofs.read.tasks.read_tasks.Given as goal

abbrev pub invariant-loop-task : goal.invariant-loop-task
invariant-loop-task l = record {
  read : with_fronts l.logs.items l.checks.items
      (tasks_in l.shape.caps l.control (length l.shape.words) l.task (drop l.task l.shape.words) l.at)
      ≡ tasks_in l.shape.caps l.control (length l.shape.words) 0 l.shape.words l.fn.at;
  made : AreOf l.shape.caps (take l.task l.shape.words) l.logs.items l.checks.items;
}
