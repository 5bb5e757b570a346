-- From which points a window can be replayed, and what is missing where it can't.
use Rattle.std.specs.Prelude.{ℕ, ◌+◌, ◌&&◌, if◌then◌else◌, nat_lt, zero, suc, length, Option, Some, None}
use Rattle.std.specs.Option.{option_or}
use Rattle.tm_ring.specs.Kept.{first_of}
use Rattle.tm_check.specs.Checkpoint.{Checkpoint, check_of}
use Rattle.tm_log.specs.Window.{WindowView, log_of, checks_of}
pub use Rattle.tm_log.specs.Points.{entries_from, resumed_in, tail_marker, marker_at_point}
use Rattle.tm_points.specs.declared.finder.Lost.{Lost}
use Rattle.tm_points.specs.declared.finder.Lost.TheVariants.{Unknown, Control, Check, Data}

-- the least point whose own entry is kept, where some were dropped
abbrev pub least_point : WindowView → ℕ
least_point w = first_of w.control + 1

-- what a task lacks that needs the checkpoint of an epoch, and with it the data entries from the
-- checkpoint's number on, of which those from the first on are kept
abbrev pub lost_of_check : ℕ → ℕ → ℕ → Option Checkpoint → Option Lost
lost_of_check task epoch first None = Some (Check task epoch)
lost_of_check task epoch first (Some c) =
    if nat_lt c.data_number first then Some (Data task c.data_number first) else None

-- what a task lacks to be replayed from the start of an epoch
abbrev pub lost_of_epoch : WindowView → ℕ → ℕ → Option Lost
lost_of_epoch w task epoch = lost_of_check task epoch (first_of (log_of w task)) (check_of (checks_of w task) epoch)

-- what a task lacks to be replayed from a point
abbrev pub lost_of_task : WindowView → ℕ → ℕ → Option Lost
lost_of_task w point task = lost_of_epoch w task (marker_at_point w point task).epoch

-- the answer of the least number, among so many, for which there is one
abbrev pub least_answer : {X : Type 0} → (ℕ → Option X) → ℕ → Option X
least_answer answer zero = None
least_answer answer (suc n) = option_or (least_answer answer n) (answer n)

-- why a window can't be replayed from a point, where it can't: the point was not reached; or its own
-- entry or a later one was dropped; or the least task that lacks something lacks that
unfoldable pub lost_of : WindowView → ℕ → Option Lost
lost_of w point =
    if nat_lt w.control.total point then Some (Unknown w.control.total)
    else if nat_lt 0 (first_of w.control) && nat_lt point (least_point w) then Some (Control (least_point w))
    else least_answer (lost_of_task w point) (length w.shape.words)
