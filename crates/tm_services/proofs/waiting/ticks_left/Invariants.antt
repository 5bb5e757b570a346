use Rattle.std.proofs.Common.{◌≡◌, ◌+◌, drop}
use Rattle.tm_services.specs.Waiting.{countdown, delayed, ticks_in}
use Rattle.tm_services.proofs.waiting.ticks_left.Given as goal

abbrev pub invariant-loop-entry : goal.invariant-loop-entry
invariant-loop-entry l = record {
  ticks : l.left + ticks_in (drop l.entry-index l.entries) ≡ ticks_in l.entries;
  here : countdown l.entries l.alarm ≡ delayed l.left (countdown (drop l.entry-index l.entries) l.alarm);
}
