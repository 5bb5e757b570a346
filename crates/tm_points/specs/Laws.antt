-- What the finder's answers say, apart from the order in which it looks.
use Rattle.std.specs.Prelude.{◌≡◌, ℕ, ◌<◌, ◌≤◌, length, unwrap_or, Option, Some, None, IsSomeAnd}
use Rattle.tm_marker.specs.declared.marker.Marker.{Marker}
use Rattle.tm_ring.specs.Kept.{first_of}
use Rattle.tm_check.specs.Checkpoint.{check_of}
use Rattle.tm_log.specs.Window.{WindowView, log_of, checks_of}
use Rattle.tm_points.specs.Finder.{entries_from, resumed_in, tail_marker, marker_at_point}

-- a task's marker by the entries after a point alone, of which the first has the point as its number:
-- the one with which it is next resumed, or its last one
abbrev pub marker_after : WindowView → ℕ → ℕ → Marker
marker_after w point task = unwrap_or (resumed_in (entries_from w.control point) task) (tail_marker w task)

-- a task can go on from a point: the checkpoint of its epoch there is kept, and of its data entries
-- all since
abbrev pub CanGoOn : WindowView → ℕ → ℕ → Type 0
CanGoOn w point task =
    IsSomeAnd (check_of (checks_of w task) (marker_at_point w point task).epoch)
    (λ c. first_of (log_of w task) ≤ c.data_number)

-- all that a replay from a point needs is kept: the run has come to the point, no control entry was
-- dropped or the point's own is kept, and each task can go on
pub record IsReplayable (w : WindowView) (point : ℕ) : Type 0 where
  pub reached : point ≤ w.control.total
  pub entries : 0 < first_of w.control → first_of w.control < point
  pub tasks : (task : ℕ) → task < length w.shape.words → CanGoOn w point task

-- this is the answer of a number, among so many, and no lesser number has one
pub record IsLeast {X : Type 0} (answer : ℕ → Option X) (most : ℕ) (x : X) : Type 0 where
  pub number : ℕ
  pub below : number < most
  pub answers : answer number ≡ Some x
  pub least : (k : ℕ) → k < number → answer k ≡ None
