-- The epochs in which the tasks stand at the points of a window, as one pass back over its control
-- entries finds them.
use Rattle.std.specs.Prelude.{◌≡◌, ℕ, ◌-◌, ◌<◌, ◌≤◌, List, slice_get, Some, IsSomeAnd}
use Rattle.tm_ring.specs.Kept.{first_of}
use Rattle.tm_log.specs.Window.{WindowView}
use Rattle.tm_points.specs.Laws.{marker_after}

-- the epochs in which a task stands, back from the last moment: at an index, the one that is told by
-- that many of the last control entries
pub record AreEpochs (w : WindowView) (task : ℕ) (epochs : List ℕ) : Type 0 where
  pub each : (number : ℕ) → first_of w.control ≤ number → number ≤ w.control.total →
      slice_get epochs (w.control.total - number) ≡ Some (marker_after w number task).epoch

-- the same of each task below a number
abbrev pub AreTasksEpochs : WindowView → List (List ℕ) → ℕ → Type 0
AreTasksEpochs w epochs tasks = (task : ℕ) → task < tasks → IsSomeAnd (slice_get epochs task) (AreEpochs w task)
