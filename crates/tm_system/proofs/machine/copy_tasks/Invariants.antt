use Rattle.tm_log.proofs.Copying.{IsCopying}
use Rattle.tm_system.proofs.machine.copy_tasks.Given as goal

abbrev pub invariant-loop-number : goal.invariant-loop-number
invariant-loop-number l = IsCopying l.from l.fn.into l.into l.number
