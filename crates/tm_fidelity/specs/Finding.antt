-- The finder on the window of a run.
use Rattle.std.specs.Prelude.{◌≡◌, ℕ, zero, suc, ◌+◌, ◌<◌, ◌≤◌, ◌↔◌, List, length, slice_get, Some, None}
use Rattle.tm_marker.specs.declared.entries.Slice.{Slice}
use Rattle.tm_task.specs.Standing.{marker_of}
use Rattle.tm_check.specs.Checkpoint.{Checkpoint}
use Rattle.tm_log.specs.Points.{marker_at_point}
use Rattle.tm_image.specs.Image.{ImageView, IsImage}
use Rattle.tm_system.specs.History.{History}
use Rattle.tm_system.specs.Run.{run}
use Rattle.tm_system.specs.Marks.{epochs, standing_at}
use Rattle.tm_system.specs.Controls.{controls, entries, checkpoints}
use Rattle.tm_system.specs.Telling.{upto}
use Rattle.tm_system.specs.Accepted.{IsPointKept, IsAccepted}
use Rattle.tm_system.specs.Follows.{IsRun}
use Rattle.tm_system.specs.WindowOf.{window_of}
use Rattle.tm_points.specs.declared.finder.Lost.{Lost}
use Rattle.tm_points.specs.declared.finder.Lost.TheVariants.{Unknown, Control, Check, Data}
use Rattle.tm_points.specs.Finder.{lost_of}

-- a task's marker at a point whose entry is kept, read from the window, is the one that it had there
abbrev pub MarkersAreOfPoints : Type 0
MarkersAreOfPoints = (image : ImageView) (h : History) (point task : ℕ) → IsImage image → IsRun image h →
    point ≤ length (controls image h) → IsPointKept image h point → task < length image.loads →
    marker_at_point (window_of image h) point task ≡ marker_of (standing_at image (upto image point h) task)

-- nothing is lost of a point exactly where the run can be replayed from it
abbrev pub FinderIsRight : Type 0
FinderIsRight = (image : ImageView) (h : History) (point : ℕ) → IsImage image → IsRun image h →
    (lost_of (window_of image h) point ≡ None) ↔ IsAccepted image h point

-- and so of the run of every script
abbrev pub ScriptsAreFound : Type 0
ScriptsAreFound = (image : ImageView) (script : List Slice) (point : ℕ) → IsImage image →
    (lost_of (window_of image (run image script)) point ≡ None) ↔ IsAccepted image (run image script) point

-- the item of this number was there, and is no longer among the last items that a buffer of this capacity keeps
abbrev pub IsDropped : {X : Type 0} → ℕ → List X → ℕ → Type 0
IsDropped cap all number = number + cap < length all

-- the control entry of a point was dropped, or, of boot, the first entry
abbrev pub IsPointDropped : ImageView → History → ℕ → Type 0
IsPointDropped image h zero = IsDropped image.caps.control (controls image h) 0
IsPointDropped image h (suc number) = IsDropped image.caps.control (controls image h) number

-- the checkpoint of the epoch in which the task stood at the point was dropped
pub record IsCheckDropped (image : ImageView) (h : History) (point task epoch : ℕ) : Type 0 where
  pub task_is : task < length image.loads
  pub stood : epoch ≡ epochs task (upto image point h)
  pub dropped : IsDropped image.caps.checks (checkpoints image task h) epoch

-- that checkpoint is there, and the first data entry that the task made since it was dropped
pub record IsEntryDropped (image : ImageView) (h : History) (point task needed : ℕ) : Type 0 where
  pub task_is : task < length image.loads
  pub check : Checkpoint
  pub taken : slice_get (checkpoints image task h) (epochs task (upto image point h)) ≡ Some check
  pub since : needed ≡ check.data_number
  pub dropped : IsDropped image.caps.logs (entries task h) needed

-- what is told as lost was dropped, though a replay from the point needs it
abbrev pub WasDropped : ImageView → History → ℕ → Lost → Type 0
WasDropped image h point (Unknown total) = ⊥
WasDropped image h point (Control first) = IsPointDropped image h point
WasDropped image h point (Check task epoch) = IsCheckDropped image h point task epoch
WasDropped image h point (Data task needed first) = IsEntryDropped image h point task needed

-- a point that the run has reached is refused only where something that it needs was dropped
abbrev pub RefusalsNameDropped : Type 0
RefusalsNameDropped = (image : ImageView) (h : History) (point : ℕ) (lost : Lost) → IsImage image → IsRun image h →
    point ≤ length (controls image h) → lost_of (window_of image h) point ≡ Some lost → WasDropped image h point lost
