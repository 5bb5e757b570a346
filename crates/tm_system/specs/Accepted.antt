-- From which points a run can be replayed out of bounded buffers: all that a replay needs is still kept.
use Rattle.std.specs.Prelude.{◌≡◌, ℕ, zero, suc, ◌+◌, ◌<◌, ◌≤◌, List, length, slice_get, Some}
use Rattle.tm_check.specs.Checkpoint.{Checkpoint}
use Rattle.tm_image.specs.Image.{ImageView}
use Rattle.tm_system.specs.History.{History}
use Rattle.tm_system.specs.Marks.{epochs}
use Rattle.tm_system.specs.Controls.{controls, entries, checkpoints}
use Rattle.tm_system.specs.Telling.{upto}

-- the item of this number, counted from 0, is among the last items that a buffer of this capacity keeps
abbrev pub IsAmongLast : {X : Type 0} → ℕ → List X → ℕ → Type 0
IsAmongLast cap all number = length all ≤ number + cap

-- the control entry of the point is kept; boot has none, and needs that no entry was dropped
abbrev pub IsPointKept : ImageView → History → ℕ → Type 0
IsPointKept image h zero = length (controls image h) ≤ image.caps.control
IsPointKept image h (suc number) = IsAmongLast image.caps.control (controls image h) number

-- a task can go on from an epoch: the checkpoint of the epoch is kept, and each data entry that the task
-- has made since that checkpoint
pub record CanGoOnFrom (image : ImageView) (h : History) (task epoch : ℕ) : Type 0 where
  pub check : Checkpoint
  pub taken : slice_get (checkpoints image task h) epoch ≡ Some check
  pub kept : IsAmongLast image.caps.checks (checkpoints image task h) epoch
  pub entries : (number : ℕ) → check.data_number ≤ number → number < length (entries task h) →
      IsAmongLast image.caps.logs (entries task h) number

-- a run can be replayed from a point: the run has reached the point, the point's control entry is kept,
-- and each task can go on from the epoch in which it stood at the point
pub record IsAccepted (image : ImageView) (h : History) (point : ℕ) : Type 0 where
  pub reached : point ≤ length (controls image h)
  pub entry : IsPointKept image h point
  pub tasks : (task : ℕ) → task < length image.loads → CanGoOnFrom image h task (epochs task (upto image point h))
