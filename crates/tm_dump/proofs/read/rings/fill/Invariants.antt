use Rattle.std.proofs.Common.{◌≡◌, ◌+◌, ◌-◌, None, length}
use Rattle.tm_dump.specs.Reading.{entries_in}
use Rattle.tm_dump.proofs.Fronts.{with_front}
use Rattle.tm_dump.proofs.read.rings.fill.Given as goal

abbrev pub invariant-loop : goal.invariant-loop
invariant-loop g l = record {
  read : with_front l.ring.items (entries_in (g.T.Entry.entry_in l.tasks) l.before (l.number - l.counter) l.at)
      ≡ entries_in (g.T.Entry.entry_in l.tasks) None l.number l.fn.at;
  len : length l.ring.items ≡ l.counter;
  total : l.ring.total ≡ l.fn.ring.total + l.counter;
  cap : l.ring.cap ≡ l.fn.ring.cap;
}
