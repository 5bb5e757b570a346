use Rattle.std.specs.Prelude.{◌≤◌, Some, vec_capacity}
use Rattle.std.specs.List.{flat_map}
use Rattle.std.proofs.Common.{◌≡◌, ◌+◌, ◌*◌, drop, vec_len}
use Rattle.tm_check.specs.Checkpoint.{Checkpoint, check_of}
use Rattle.tm_dump.specs.Fields.{word_bytes, core_words}
use Rattle.tm_dump.specs.Room.{Lacks}
use Rattle.tm_dump.proofs.checkpoints.put_core.Given as goal

abbrev pub invariant-loop-place : goal.invariant-loop-place
invariant-loop-place l = record {
  written : (c : Checkpoint) → check_of l.checks l.at.epoch ≡ Some c →
      Lacks l.fn.into l.into (flat_map word_bytes (core_words c.body)) (flat_map word_bytes (drop l.place (core_words c.body)));
  len : vec_len l.into ≡ vec_len l.fn.into + 4 * l.place;
  capacity : vec_capacity l.fn.into ≤ vec_capacity l.into;
}
