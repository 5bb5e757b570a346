use Rattle.std.proofs.Common.{◌≡◌, None}
use Rattle.tm_points.specs.Finder.{lost_of_task, least_answer}
use Rattle.tm_points.proofs.epochs.is_accepted.Given as goal

abbrev pub invariant-loop-task : goal.invariant-loop-task
invariant-loop-task l = least_answer (lost_of_task l.window l.point) l.task ≡ None
