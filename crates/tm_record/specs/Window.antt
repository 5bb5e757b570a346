-- The window of a run.
use Rattle.std.specs.Prelude.{◌≡◌, ℕ, ◌<◌, length, slice_get, Some, option_map}
use Rattle.tm_marker.specs.declared.tail.Tail.{Tail}
use Rattle.tm_task.specs.Standing.{marker_of}
use Rattle.tm_kernel.specs.State.{state_number}
use Rattle.tm_image.specs.Image.{ImageView, shape_of}
use Rattle.tm_ring.specs.Kept.{Holds}
use Rattle.tm_check.specs.Checkpoint.{HoldsChecks}
use Rattle.tm_log.specs.Window.{WindowView, log_of, checks_of}
use Rattle.tm_system.specs.History.{History}
use Rattle.tm_system.specs.Run.{now, running_at}
use Rattle.tm_system.specs.Marks.{standing_at}
use Rattle.tm_system.specs.Controls.{controls, entries, outputs, checkpoints}

-- each buffer holds the last items of the list that the run left, and the list's length as its total
pub record HoldsLists (image : ImageView) (w : WindowView) (h : History) : Type 0 where
  pub control : Holds w.control (controls image h)
  pub outputs : Holds w.outputs (outputs h)
  pub logs : (task : ℕ) → task < length image.loads → Holds (log_of w task) (entries task h)
  pub checks : (task : ℕ) → task < length image.loads → HoldsChecks (checks_of w task) (checkpoints image task h)

-- the tail tells the run's last moment: who runs, whether the run has ended, and each task's marker and
-- state
pub record IsTailOf (image : ImageView) (tail : Tail) (h : History) : Type 0 where
  pub running : tail.running ≡ running_at image h
  pub ended : tail.ended ≡ (now image h).kernel.ended
  pub at : (task : ℕ) → task < length image.loads → slice_get tail.at task ≡ Some (marker_of (standing_at image h task))
  pub state : (task : ℕ) → task < length image.loads →
      slice_get tail.state task ≡ option_map state_number (slice_get (now image h).kernel.states task)

-- the window is that of the run
pub record IsWindowOf (image : ImageView) (w : WindowView) (h : History) : Type 0 where
  pub shape : w.shape ≡ shape_of image
  pub lists : HoldsLists image w h
  pub tail : IsTailOf image w.tail h
