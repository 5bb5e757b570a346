use Rattle.std.proofs.Common.{ap, sym, ◌∙◌}
use Rattle.tm_log.proofs.Copying.{copies_one, copying_next}
use Rattle.tm_log.proofs.Keeping.{same_lengths, same_sizes}
use Rattle.tm_log.proofs.tasks.copy_checks.Goals as goal

pub copy_from-requires-clause-words : goal.copy_from-requires-clause-words
copy_from-requires-clause-words c =
    ap (λ k. k.words) (copying_next _ _ _ _ c.index-into-task.result c.loop-task.invariant c.loop-task-test.true)
    ∙ same_sizes _ _ c.requires.words c.loop-task.task c.index-into-task.result c.index-from-task.result c.loop-task-test.true
    ∙ ap (λ k. k.words) (sym c.index-from-task.is)

pub loop-task-preserved : goal.loop-task-preserved
loop-task-preserved c =
    rw c.copy_from.ensures (copies_one _ _ _ _ _ c.loop-task.invariant c.loop-task-test.true (same_lengths _ _ c.requires.words) c.index-from-task.is)
