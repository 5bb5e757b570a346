use Rattle.std.proofs.Common.{◌≡◌, ℕ, ◌<◌, length, slice_index}
use Rattle.tm_services.specs.Ceilings.{ceiling, nothing_held}
use Rattle.tm_services.proofs.ceilings.ceilings_of.Given as goal

abbrev pub invariant-loop-res : goal.invariant-loop-res
invariant-loop-res l = record {
  number : length l.ceilings ≡ 16;
  below : (k : ℕ) → k < l.res → slice_index l.ceilings k ≡ ceiling (nothing_held l.priorities l.users 0) k;
}
