use Rattle.std.proofs.Common.{◌≡◌, drop, length}
use Rattle.tm_dump.specs.Reading.{stands_in}
use Rattle.tm_dump.proofs.Fronts.{with_fronts}
use Rattle.tm_dump.proofs.read.tail.read_stands.Given as goal

abbrev pub invariant-loop-task : goal.invariant-loop-task
invariant-loop-task l = record {
  read : with_fronts l.markers l.states (stands_in l.running l.task (drop l.task l.checks) l.at) ≡ stands_in l.running 0 l.checks l.fn.at;
  markers : length l.markers ≡ l.task;
  states : length l.states ≡ l.task;
}
