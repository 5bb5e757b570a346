use Rattle.std.proofs.Common.{◌≡◌, ◌+◌, ◌-◌, length}
use Rattle.tm_dump.specs.Reading.{checkpoints_in}
use Rattle.tm_dump.proofs.Fronts.{with_front}
use Rattle.tm_dump.proofs.read.checkpoints.fill.Given as goal

abbrev pub invariant-loop : goal.invariant-loop
invariant-loop l = record {
  read : with_front l.checks.items (checkpoints_in l.size l.entries l.switches (l.number - l.counter) l.at)
      ≡ checkpoints_in l.size l.entries l.switches l.number l.fn.at;
  len : length l.checks.items ≡ l.counter;
  total : l.checks.total ≡ l.fn.checks.total + l.counter;
  cap : l.checks.cap ≡ l.fn.checks.cap;
  words : l.checks.words ≡ l.fn.checks.words;
}
