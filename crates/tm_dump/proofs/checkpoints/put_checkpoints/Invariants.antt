use Rattle.std.specs.List.{flat_map}
use Rattle.std.proofs.Common.{◌≡◌, ◌+◌, ◌*◌, drop, vec_len}
use Rattle.tm_dump.specs.Fields.{checkpoint_bytes}
use Rattle.tm_dump.specs.Room.{Lacks}
use Rattle.tm_dump.proofs.checkpoints.put_checkpoints.Given as goal

abbrev pub invariant-loop-index : goal.invariant-loop-index
invariant-loop-index l = record {
  written : Lacks l.fn.into l.into (flat_map checkpoint_bytes l.checks.items) (flat_map checkpoint_bytes (drop l.index l.checks.items));
  len : vec_len l.into ≡ vec_len l.fn.into + (144 + 4 * l.checks.words) * l.index;
}
