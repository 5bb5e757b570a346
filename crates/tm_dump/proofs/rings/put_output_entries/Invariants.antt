use Rattle.std.specs.Prelude.{◌≤◌}
use Rattle.std.specs.List.{flat_map}
use Rattle.std.proofs.Common.{◌+◌, ◌*◌, drop, vec_len}
use Rattle.tm_dump.specs.Fields.{output_bytes}
use Rattle.tm_dump.specs.Room.{Lacks}
use Rattle.tm_dump.proofs.rings.put_output_entries.Given as goal

abbrev pub invariant-loop-index : goal.invariant-loop-index
invariant-loop-index l = record {
  written : Lacks l.fn.into l.into (flat_map output_bytes l.ring.items) (flat_map output_bytes (drop l.index l.ring.items));
  len : vec_len l.into ≤ vec_len l.fn.into + 6 * l.index;
}
