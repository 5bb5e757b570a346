-- Writing at the end of a vector that has room.
use Rattle.std.specs.Prelude.{◌≡◌, ℕ, ◌+◌, ◌*◌, ◌≤◌, List, ◌++◌, length, sum_by, Vec, vec_len, vec_capacity}
use Rattle.std.specs.List.{zip}
use Rattle.tm_marker.specs.declared.entries.DataEntry.{DataEntry}
use Rattle.tm_ring.specs.Kept.{Kept}
use Rattle.tm_check.specs.Checkpoint.{KeptChecks}
use Rattle.tm_log.specs.Window.{WindowView}
use Rattle.tm_dump.specs.declared.widths.TheConstants.{WORD_BYTES, LONG_BYTES, DIGEST_BYTES, HEAD_BYTES, SWITCH_BYTES, OUTPUT_BYTES, ENTRY_BYTES, CHECKPOINT_BYTES, ENDS_BYTES, STAND_BYTES}

-- so many more items fit without taking memory
abbrev pub HasRoom : {Z : Type 0} → Vec ℕ Z → ℕ → Type 0
HasRoom v more = vec_len v + more ≤ vec_capacity v

-- the vector gained these bytes at its end, and its capacity did not shrink
pub record Gains {Z : Type 0} (old new : Vec ℕ Z) (bytes : List ℕ) : Type 0 where
  pub items : new.items ≡ old.items ++ bytes
  pub len : vec_len new ≡ vec_len old + length bytes
  pub capacity : vec_capacity old ≤ vec_capacity new

-- of these bytes the last ones are not yet written
pub record Lacks {Z : Type 0} (old now : Vec ℕ Z) (bytes rest : List ℕ) : Type 0 where
  pub items : now.items ++ rest ≡ old.items ++ bytes
  pub len : vec_len now + length rest ≡ vec_len old + length bytes
  pub capacity : vec_capacity old ≤ vec_capacity now

-- how many bytes a task's data entries and checkpoints have, each with all of its words
abbrev pub task_room : Kept DataEntry × KeptChecks → ℕ
task_room task =
    2 * LONG_BYTES + ENTRY_BYTES * length task.0.items
    + (CHECKPOINT_BYTES + WORD_BYTES * task.1.words) * length task.1.items

-- how many bytes those of all tasks have
abbrev pub tasks_room : WindowView → ℕ
tasks_room w = sum_by task_room (zip w.logs w.checks)

-- how many bytes a dump has, where each entry has four words and each body its 31 registers
abbrev pub dump_room : WindowView → ℕ
dump_room w =
    HEAD_BYTES + (LONG_BYTES + SWITCH_BYTES * length w.control.items) + (LONG_BYTES + OUTPUT_BYTES * length w.outputs.items)
    + tasks_room w + (ENDS_BYTES + STAND_BYTES * length w.shape.words) + DIGEST_BYTES
