use Rattle.tm_record.proofs.Ending.{IsClosing}
use Rattle.tm_record.proofs.closing.close.Given as goal

abbrev pub invariant-loop-task : goal.invariant-loop-task
invariant-loop-task l = IsClosing l.machine l.fn.window l.window l.task
