use Rattle.tm_log.proofs.Copying.{IsCopying}
use Rattle.tm_log.proofs.tasks.copy_checks.Given as goal

abbrev pub invariant-loop-task : goal.invariant-loop-task
invariant-loop-task l = IsCopying l.from l.fn.into l.into l.task
