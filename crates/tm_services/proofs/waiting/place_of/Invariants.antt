use Rattle.std.proofs.Common.{◌≡◌, ◌≤◌, ◌+◌, ◌-◌, length, drop}
use Rattle.tm_services.specs.Waiting.{place_of, rest_of}
use Rattle.tm_services.proofs.waiting.place_of.Given as goal

abbrev pub invariant-loop-index : goal.invariant-loop-index
invariant-loop-index l = record {
  within : l.index ≤ length l.entries;
  place : place_of l.ticks l.entries ≡ l.index + place_of l.wait (drop l.index l.entries);
  rest : rest_of l.ticks l.entries ≡ rest_of l.wait (drop l.index l.entries);
}

abbrev pub decreases-loop-index : goal.decreases-loop-index
decreases-loop-index l = length l.entries - l.index
