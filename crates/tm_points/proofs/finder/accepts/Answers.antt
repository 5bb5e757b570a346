use Rattle.std.proofs.Common.{◌≡◌, Some, length, arith, ap, sym, ◌∙◌}
use Rattle.std.proofs.lemmas.Grind.{common_steps}
use Rattle.std.specs.Result.{result_err}
use Rattle.tm_points.specs.Finder.{lost_of_task, least_answer, lost_of}
use Rattle.tm_points.proofs.Least.{least_found}
use Rattle.tm_points.proofs.finder.accepts.Goals as goal

pub returns-in_err-accepts_task : goal.returns-in_err-accepts_task
unfolding lost_of
returns-in_err-accepts_task c =
    let tasks = length c.args.window.now.shape.words in
    let lost = lost_of_task c.args.window.now c.args.point in
    let lacks : lost c.loop-task.task ≡ Some c.in_err-accepts_task.field-0.0 =
    sym c.accepts_task.ensures ∙ ap result_err c.in_err-accepts_task.was in
    let found : least_answer lost tasks ≡ Some c.in_err-accepts_task.field-0.0 =
    least_found lost c.loop-task.task tasks c.in_err-accepts_task.field-0.0 c.loop-task.invariant lacks (omega arith) in
    grind (arith, common_steps, found)
