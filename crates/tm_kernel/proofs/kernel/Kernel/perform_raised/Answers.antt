use Rattle.std.proofs.Common.{◌<◌, ◌≤◌, length, inl, inr, sym, ◌∙◌, arith}
use Rattle.tm_kernel.proofs.Raising.{line_performed, lines_performed}
use Rattle.tm_kernel.proofs.kernel.Kernel.perform_raised.Goals as goal
use Rattle.tm_kernel.proofs.kernel.Kernel.perform_raised.Goals.{then-mask-line-eq1, else-mask-line-eq1}

pub loop-line-preserved : goal.loop-line-preserved
loop-line-preserved c =
    let there : c.loop-line.line < length c.args.lines.now = omega arith in
    let step = line_performed c.args.lines.now c.args.mask c.loop-line.line _ _ c.loop-line.self c.if-mask-line-eq1.self
    c.loop-line.invariant there in
    elim c.if-mask-line-eq1.branch [
      | then-mask-line-eq1 w ↦ step (inl (w.if-mask-line-eq1.true, w.self-is ∙ w.perform.ensures))
      | else-mask-line-eq1 w ↦ step (inr (w.if-mask-line-eq1.false, w.self-is))
    ]

pub returns : goal.returns
returns c =
    let past : length c.args.lines.now ≤ c.loop-line.line = omega arith in
    sym (lines_performed c.args.lines.now c.args.mask c.loop-line.line _ _ c.loop-line.invariant past)
