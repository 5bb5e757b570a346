use Rattle.std.proofs.Common.{sym, ◌∙◌, inl, inr}
use Rattle.tm_kernel.proofs.Scan.{claim_scanned, claims_scanned, scanned_picks}
use Rattle.tm_kernel.proofs.kernel.claim.first_greatest.Goals as goal
use Rattle.tm_kernel.proofs.kernel.claim.first_greatest.Goals.{then-beats, else-beats}

pub loop-task-preserved : goal.loop-task-preserved
loop-task-preserved c =
    let step = claim_scanned c.args.ceilings.now c.args.states.now c.loop-task.task _ c.loop-task.best c.claim_of-here.result c.if-beats.best
    c.loop-task.picked c.if-beats.picked _ c.loop-task.invariant c.loop-task-test.true c.claim_of-here.ensures in
    elim c.if-beats.branch [
      | then-beats w ↦ step (inl (sym c.beats.ensures ∙ w.if-beats.true, w.best-is, w.picked-is))
      | else-beats w ↦ step (inr (sym c.beats.ensures ∙ w.if-beats.false, w.best-is, w.picked-is))
    ]

pub returns : goal.returns
returns c =
    sym (claims_scanned c.args.ceilings.now c.args.states.now _ _ _ _ c.loop-task.invariant c.loop-task-test.false)
    ∙ scanned_picks _
