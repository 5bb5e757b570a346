use Rattle.std.proofs.Common.{◌≡◌, ◌-◌, cond, ap, sym, ◌∙◌, arith}
use Rattle.std.specs.Prelude.{option_copied, ◌==◌}
use Rattle.std.proofs.lemmas.Grind.{common_steps}
use Rattle.tm_points.proofs.Back.{back_more}
use Rattle.tm_points.proofs.epochs.task_epochs_back.Goals as goal
use Rattle.tm_points.proofs.epochs.task_epochs_back.Goals.{then-entry-task, else-entry-task}

pub loop-number-preserved : goal.loop-number-preserved
loop-number-preserved c =
    let next : c.if-entry-task.epoch ≡ cond (c.in-Some.entry.now.to == c.args.task) c.in-Some.entry.now.to_at.epoch c.loop-number.epoch =
    elim c.if-entry-task.branch [ then-entry-task w ↦ grind (arith, common_steps) | else-entry-task w ↦ grind (arith, common_steps) ] in
    rw c.in_ok-push-2.ensures.ok
    (back_more _ _ _ _ (c.loop-number.number - 1) _ _ _ c.in-Some.entry.now c.loop-number.invariant (omega arith) (omega arith) (omega arith)
    (sym c.get.ensures.item ∙ ap option_copied c.in-Some.is) next)
