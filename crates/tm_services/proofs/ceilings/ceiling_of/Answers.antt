use Rattle.std.proofs.Common.{inl, inr, sym, ◌∙◌, arith}
use Rattle.tm_services.proofs.Users.{task_seen}
use Rattle.tm_services.proofs.ceilings.ceiling_of.Goals as goal
use Rattle.tm_services.proofs.ceilings.ceiling_of.Goals.{then-has_bit, else-has_bit}

pub loop-task-preserved : goal.loop-task-preserved
loop-task-preserved c =
    let step = task_seen c.args.priorities.now c.args.mask c.loop-task.task _ c.loop-task.ceiling c.if-has_bit.ceiling
    c.loop-task.invariant (omega arith) in
    elim c.if-has_bit.branch [
      | then-has_bit w ↦ step (inl (sym c.has_bit.ensures ∙ w.if-has_bit.true, w.ceiling-is ∙ w.max-ceiling.ensures))
      | else-has_bit w ↦ step (inr (sym c.has_bit.ensures ∙ w.if-has_bit.false, w.ceiling-is))
    ]
