use Rattle.std.proofs.Common.{◌≡◌, ◌-◌, ◌≤◌, ap, sym, ◌∙◌, arith}
use Rattle.tm_ring.specs.Kept.{first_of}
use Rattle.tm_points.specs.Finder.{lost_of_task, lost_of_epoch}
use Rattle.tm_points.proofs.Back.{lacks_at, refuses, passes_on}
use Rattle.tm_points.proofs.epochs.is_accepted.Goals as goal

pub returns-then-is_err : goal.returns-then-is_err
returns-then-is_err c =
    let first : first_of c.args.window.now.control ≡ c.first.result = ap first_of (sym c.control-control.ensures) ∙ sym c.first.ensures.first in
    let total : c.args.window.now.control.total ≡ c.total-total.result = ap (λ k. k.total) (sym c.control-control.ensures) ∙ sym c.total-total.ensures.total in
    let reached : first_of c.args.window.now.control ≤ c.args.point - 1 = omega arith in
    let lacks : lost_of_epoch c.args.window.now c.loop-task.task c.at-epoch.result ≡ lost_of_task c.args.window.now c.args.point c.loop-task.task =
    lacks_at c.args.window.now c.args.epochs.now c.index-epochs-from.result c.loop-task.task c.from.result c.args.point
    (c.total-total.result - c.saturating_sub-number.result) c.at-epoch.result c.requires (omega arith) (omega arith) c.index-epochs-from.is
    c.at-epoch.ensures (omega arith) reached (omega arith) in
    refuses c.args.window.now c.args.point c.loop-task.task c.accepts_epoch.result c.loop-task.invariant (omega arith) (omega arith) reached
    (c.accepts_epoch.ensures ∙ lacks) (sym c.is_err.ensures.value ∙ c.if-is_err.true)

pub loop-task-preserved : goal.loop-task-preserved
loop-task-preserved c =
    let first : first_of c.args.window.now.control ≡ c.first.result = ap first_of (sym c.control-control.ensures) ∙ sym c.first.ensures.first in
    let total : c.args.window.now.control.total ≡ c.total-total.result = ap (λ k. k.total) (sym c.control-control.ensures) ∙ sym c.total-total.ensures.total in
    let reached : first_of c.args.window.now.control ≤ c.args.point - 1 = omega arith in
    let lacks : lost_of_epoch c.args.window.now c.loop-task.task c.at-epoch.result ≡ lost_of_task c.args.window.now c.args.point c.loop-task.task =
    lacks_at c.args.window.now c.args.epochs.now c.index-epochs-from.result c.loop-task.task c.from.result c.args.point
    (c.total-total.result - c.saturating_sub-number.result) c.at-epoch.result c.requires (omega arith) (omega arith) c.index-epochs-from.is
    c.at-epoch.ensures (omega arith) reached (omega arith) in
    passes_on c.args.window.now c.args.point c.loop-task.task c.accepts_epoch.result c.loop-task.invariant
    (c.accepts_epoch.ensures ∙ lacks) (sym c.is_err.ensures.value ∙ c.if-is_err.false)
