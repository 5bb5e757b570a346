use Rattle.std.proofs.Common.{length, ap, sym, ◌∙◌}
use Rattle.tm_log.proofs.Copying.{copies_one, copying_next}
use Rattle.tm_system.proofs.Copied.{same_numbers, same_counts}
use Rattle.tm_system.proofs.machine.copy_tasks.Goals as goal

pub copy_from-requires : goal.copy_from-requires
copy_from-requires c = sym (
    ap (λ t. length t.standing.body.words) (copying_next _ _ _ _ c.index-into-number.result c.loop-number.invariant c.loop-number-test.true)
    ∙ same_counts _ _ c.requires c.loop-number.number c.index-into-number.result c.index-from-number.result c.loop-number-test.true
    ∙ ap (λ t. length t.standing.body.words) (sym c.index-from-number.is))

pub loop-number-preserved : goal.loop-number-preserved
loop-number-preserved c =
    rw c.copy_from.ensures.copied (copies_one _ _ _ _ _ c.loop-number.invariant c.loop-number-test.true (same_numbers _ _ c.requires) c.index-from-number.is)
