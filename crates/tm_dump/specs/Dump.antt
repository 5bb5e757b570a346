-- The dump of a window: one spelling for each window.
use Rattle.std.specs.Prelude.{ℕ, List, [], ◌∷◌, ◌++◌, length}
use Rattle.std.specs.List.{flat_map, zip}
use Rattle.sha2.specs.Sha256.{sha256}
use Rattle.tm_marker.specs.declared.marker.Marker.{Marker}
use Rattle.tm_marker.specs.declared.entries.Switch.{Switch}
use Rattle.tm_marker.specs.declared.entries.DataEntry.{DataEntry}
use Rattle.tm_marker.specs.declared.entries.OutputEntry.{OutputEntry}
use Rattle.tm_marker.specs.declared.shape.Shape.{Shape}
use Rattle.tm_marker.specs.declared.tail.Tail.{Tail}
use Rattle.tm_ring.specs.Kept.{Kept}
use Rattle.tm_check.specs.Checkpoint.{KeptChecks}
use Rattle.tm_log.specs.Window.{WindowView}
use Rattle.tm_dump.specs.Fields.{long_bytes, marker_bytes, switch_bytes, output_bytes, entry_bytes, checkpoint_bytes}

-- the magic number and the version
abbrev pub magic_bytes : List ℕ
magic_bytes = 0x54 ∷ 0x4d ∷ 0x44 ∷ 0x50 ∷ 1 ∷ []

-- the magic number, the version, the image's digest, and the number of tasks
unfoldable pub head_bytes : Shape → List ℕ
head_bytes shape = magic_bytes ++ shape.image ++ (length shape.words ∷ [])

-- the control entries: how many there were, and the kept ones, oldest first
unfoldable pub control_bytes : Kept Switch → List ℕ
control_bytes ring = long_bytes ring.total ++ flat_map switch_bytes ring.items

-- the outputs: how many there were, and the kept ones, oldest first
unfoldable pub outputs_bytes : Kept OutputEntry → List ℕ
outputs_bytes ring = long_bytes ring.total ++ flat_map output_bytes ring.items

-- a task's data entries: how many there were, and the kept ones, oldest first
unfoldable pub log_bytes : Kept DataEntry → List ℕ
log_bytes ring = long_bytes ring.total ++ flat_map entry_bytes ring.items

-- a task's checkpoints: how many there were, and the kept ones, oldest first
unfoldable pub checks_bytes : KeptChecks → List ℕ
checks_bytes checks = long_bytes checks.total ++ flat_map checkpoint_bytes checks.items

-- a task's data entries and checkpoints
unfoldable pub task_bytes : Kept DataEntry × KeptChecks → List ℕ
task_bytes task = log_bytes task.0 ++ checks_bytes task.1

-- the marker and the state of a task at the last moment
unfoldable pub stand_bytes : Marker × ℕ → List ℕ
stand_bytes task = marker_bytes task.0 ++ (task.1 ∷ [])

-- the last moment: who runs, whether the run has ended, and each task's marker and state
unfoldable pub tail_bytes : Tail → List ℕ
tail_bytes tail = (tail.running ∷ tail.ended ∷ []) ++ flat_map stand_bytes (zip tail.at tail.state)

-- all bytes of a dump before its closing digest
unfoldable pub body_bytes : WindowView → List ℕ
body_bytes w =
    head_bytes w.shape ++ control_bytes w.control ++ outputs_bytes w.outputs
    ++ flat_map task_bytes (zip w.logs w.checks) ++ tail_bytes w.tail

-- the digest that closes a dump whose other bytes are these
unfoldable pub closing_digest : List ℕ → List ℕ
closing_digest body = sha256 body

-- the dump of a window
unfoldable pub dump_bytes : WindowView → List ℕ
dump_bytes w = body_bytes w ++ closing_digest (body_bytes w)
