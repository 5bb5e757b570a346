use Rattle.tm_points.proofs.Back.{IsBack}
use Rattle.tm_points.proofs.epochs.task_epochs_back.Given as goal

abbrev pub invariant-loop-number : goal.invariant-loop-number
invariant-loop-number l = IsBack l.control l.task (l.window.tail.at) l.number l.epoch l.epochs
