use Rattle.std.specs.Prelude.{◌≤◌}
use Rattle.std.specs.List.{flat_map}
use Rattle.std.proofs.Common.{◌+◌, ◌*◌, drop, vec_len}
use Rattle.tm_dump.specs.Fields.{entry_bytes}
use Rattle.tm_dump.specs.Room.{Lacks}
use Rattle.tm_dump.proofs.rings.put_data_entries.Given as goal

abbrev pub invariant-loop-index : goal.invariant-loop-index
invariant-loop-index l = record {
  written : Lacks l.fn.into l.into (flat_map entry_bytes l.ring.items) (flat_map entry_bytes (drop l.index l.ring.items));
  len : vec_len l.into ≤ vec_len l.fn.into + 21 * l.index;
}
