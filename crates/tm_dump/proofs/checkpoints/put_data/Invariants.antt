use Rattle.std.specs.Prelude.{◌≤◌, Some, vec_capacity}
use Rattle.std.specs.List.{flat_map}
use Rattle.std.proofs.Common.{◌≡◌, ◌+◌, ◌*◌, drop, length, vec_len}
use Rattle.tm_check.specs.Checkpoint.{Checkpoint, check_of}
use Rattle.tm_dump.specs.Fields.{word_bytes}
use Rattle.tm_dump.specs.Room.{Lacks}
use Rattle.tm_dump.proofs.checkpoints.put_data.Given as goal

abbrev pub invariant-loop-index : goal.invariant-loop-index
invariant-loop-index l = record {
  written : (c : Checkpoint) → check_of l.checks l.at.epoch ≡ Some c → length c.body.words ≡ l.checks.words →
      Lacks l.fn.into l.into (flat_map word_bytes c.body.words) (flat_map word_bytes (drop l.index c.body.words));
  len : vec_len l.into ≡ vec_len l.fn.into + 4 * l.index;
  capacity : vec_capacity l.fn.into ≤ vec_capacity l.into;
}
