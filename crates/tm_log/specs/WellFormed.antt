-- When a window is one that a run could have left, as far as its own numbers tell.
use Rattle.std.specs.Prelude.{◌≡◌, ◌≢◌, ℕ, ◌-◌, ◌%◌, ◌<◌, ◌≤◌, ◌^◌, ◌⊎◌, List, [], ◌∷◌, length, min, slice_get, Some, All}
use Rattle.tm_marker.specs.declared.body.Body.{Body}
use Rattle.tm_marker.specs.declared.marker.Marker.{Marker}
use Rattle.tm_marker.specs.declared.marker.TheConstants.{EPOCH_LENGTH}
use Rattle.tm_marker.specs.declared.entries.Kind.{Kind}
use Rattle.tm_marker.specs.declared.entries.Kind.TheVariants.{Preempted, Waits, Ends, Fault, Shutdown, Idle}
use Rattle.tm_marker.specs.declared.entries.Switch.{Switch}
use Rattle.tm_marker.specs.declared.entries.DataEntry.{DataEntry}
use Rattle.tm_marker.specs.declared.entries.OutputEntry.{OutputEntry}
use Rattle.tm_marker.specs.declared.shape.Shape.{Shape}
use Rattle.tm_marker.specs.declared.entries.TheConstants.{PORTS}
use Rattle.tm_marker.specs.declared.tail.TheConstants.{GOES_ON, RUNNING, WAITING}
use Rattle.tm_marker.specs.Tail.{nobody, zero_marker}
pub use Rattle.tm_marker.specs.Tail.{IsTaskOrNobody, ended_by}
use Rattle.tm_ring.specs.Kept.{Kept}
use Rattle.tm_check.specs.Checkpoint.{Checkpoint, KeptChecks}
use Rattle.tm_log.specs.Window.{WindowView, log_of, checks_of}

-- a buffer keeps all that there was, or as many as its capacity
pub record IsFilled (number total cap : ℕ) : Type 0 where
  pub kept : number ≡ min total cap
  pub counted : total < 2 ^ 53

-- a count stays below the length of an epoch, and a pc is a multiple of 4
pub record IsMarker (at : Marker) : Type 0 where
  pub count : at.count < EPOCH_LENGTH
  pub aligned : at.pc % 4 ≡ 0

-- one side of a control entry: a task and its marker, or nobody and the zero marker; the task has
-- come no further than its checkpoints
pub record IsSide (w : WindowView) (task : ℕ) (at : Marker) : Type 0 where
  pub there : IsTaskOrNobody (length w.shape.words) task
  pub marker : IsMarker at
  pub nobody : task ≡ nobody → at ≡ zero_marker
  pub reached : task < length w.shape.words → at.epoch < (checks_of w task).total

-- whom a task, or nobody, leaves the processor to, by the kind
abbrev pub GoesTo : Kind → ℕ → ℕ → Type 0
GoesTo Preempted from to = (to ≢ nobody) × (to ≢ from)
GoesTo Waits from to = to ≢ from
GoesTo Ends from to = Unit {0}
GoesTo Fault from to = to ≡ nobody
GoesTo Shutdown from to = to ≡ nobody
GoesTo Idle from to = to ≢ nobody

-- a control entry by itself; its kind is idle exactly where nobody ran
pub record IsEntry (w : WindowView) (entry : Switch) : Type 0 where
  pub from : IsSide w entry.from entry.from_at
  pub to : IsSide w entry.to entry.to_at
  pub idle : entry.kind ≡ Idle → entry.from ≡ nobody
  pub nobody : entry.from ≡ nobody → entry.kind ≡ Idle
  pub goes : GoesTo entry.kind entry.from entry.to

-- an entry follows another: it leaves whom that one went to, and no entry follows the end of the run
pub record IsNext (before after : Switch) : Type 0 where
  pub from : after.from ≡ before.to
  pub goes_on : ended_by before.kind ≡ GOES_ON

-- each entry follows the one before it
abbrev pub AreChained : List Switch → Type 0
AreChained [] = Unit {0}
AreChained (entry ∷ []) = Unit {0}
AreChained (before ∷ after ∷ rest) = IsNext before after × AreChained (after ∷ rest)

-- who runs after the last of the entries
abbrev pub runs_last : List Switch → ℕ
runs_last [] = nobody
runs_last (entry ∷ []) = entry.to
runs_last (entry ∷ after ∷ rest) = runs_last (after ∷ rest)

-- whether the run has ended after the last of the entries
abbrev pub ended_last : List Switch → ℕ
ended_last [] = GOES_ON
ended_last (entry ∷ []) = ended_by entry.kind
ended_last (entry ∷ after ∷ rest) = ended_last (after ∷ rest)

-- an output of one of so many tasks, at one of the ports
pub record IsOutput (tasks : ℕ) (entry : OutputEntry) : Type 0 where
  pub task : entry.task < tasks
  pub port : entry.port < PORTS

-- a checkpoint: a pc that is a multiple of 4, and numbers no greater than the totals
pub record IsCheckpoint (entries switches : ℕ) (c : Checkpoint) : Type 0 where
  pub aligned : c.body.pc % 4 ≡ 0
  pub data_number : c.data_number ≤ entries
  pub control_number : c.control_number ≤ switches

-- a task's data entries and checkpoints, and its marker and state at the last moment: it stands in the
-- epoch of its last checkpoint, and its state is running exactly where it is the running task
pub record IsTaskWell (w : WindowView) (task : ℕ) : Type 0 where
  pub log : IsFilled (length (log_of w task).items) (log_of w task).total (log_of w task).cap
  pub statuses : All (λ (entry : DataEntry). entry.status ≤ 8) (log_of w task).items
  pub checks : IsFilled (length (checks_of w task).items) (checks_of w task).total (checks_of w task).cap
  pub booted : 0 < (checks_of w task).total
  pub bodies : All (IsCheckpoint (log_of w task).total w.control.total) (checks_of w task).items
  pub at : Marker
  pub at_is : slice_get w.tail.at task ≡ Some at
  pub marker : IsMarker at
  pub epoch : at.epoch ≡ (checks_of w task).total - 1
  pub state : ℕ
  pub state_is : slice_get w.tail.state task ≡ Some state
  pub state_number : state ≤ WAITING
  pub runs : state ≡ RUNNING → w.tail.running ≡ task
  pub running : w.tail.running ≡ task → state ≡ RUNNING

-- a window of this shape that a run could have left: every buffer is filled, every entry, output and
-- checkpoint is one of the image's tasks, each control entry follows the one before, and the tail is
-- where the last of them led
pub record IsWellFormed (w : WindowView) (shape : Shape) : Type 0 where
  pub same_shape : w.shape ≡ shape
  pub control : IsFilled (length w.control.items) w.control.total w.control.cap
  pub entries : All (IsEntry w) w.control.items
  pub chained : AreChained w.control.items
  pub output_number : IsFilled (length w.outputs.items) w.outputs.total w.outputs.cap
  pub outputs : All (IsOutput (length w.shape.words)) w.outputs.items
  pub tasks : (task : ℕ) → task < length w.shape.words → IsTaskWell w task
  pub running : w.tail.running ≡ runs_last w.control.items
  pub ended : w.tail.ended ≡ ended_last w.control.items
