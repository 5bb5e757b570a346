-- What a task does by itself: its instructions one after another, its calls answered by the data entries
-- that it has.
use Rattle.std.specs.Prelude.{ℕ, zero, suc, ◌+◌, ◌*◌, ◌^◌, Bool, true, false, List, slice_get, Option, Some, None, Result, Ok, Err, ok_or}
use Rattle.tm_rv.specs.Code.{Text}
use Rattle.tm_marker.specs.declared.marker.Marker.{Marker}
use Rattle.tm_marker.specs.declared.marker.TheConstants.{EPOCH_LENGTH}
use Rattle.tm_marker.specs.Order.{marker_lt}
use Rattle.tm_marker.specs.declared.entries.DataEntry.{DataEntry}
use Rattle.tm_task.specs.Exec.{Exec, Faults, Calls, Goes, exec}
use Rattle.tm_task.specs.Standing.{marker_of}
use Rattle.tm_task.specs.Place.{Place, next_place}
use Rattle.tm_system.specs.declared.diverged.Why.{Why}
use Rattle.tm_system.specs.declared.diverged.Why.TheVariants.{Passed, Faulted, NoEntry, OtherService}

-- a task by itself: its number, where its text is entered, its text, its data entries from a number on,
-- that number, and how many it made in the run
pub record Alone : Type 0 where
  pub task : ℕ
  pub entry : ℕ
  pub text : Text
  pub log : List DataEntry
  pub first : ℕ
  pub total : ℕ

-- why an instruction leads to no next place: it faults, or it calls and the next data entry is not there
-- or of another service; one that goes on always leads to one
abbrev pub why_by : ℕ → Exec → Option DataEntry → Why
why_by total (Faults cause) entry = Faulted cause
why_by total (Calls service) None = NoEntry total
why_by total (Calls service) (Some d) = OtherService d.service service
why_by total (Goes next back) entry = Passed

-- the place after one more instruction, or why there is none
unfoldable pub next_or_why : Alone → Place → Result Place Why
next_or_why a p =
    ok_or (next_place a.entry a.task a.text a.log p)
    (why_by a.total (exec a.text p.standing.body) (slice_get a.log p.used))

-- where a task comes that goes on to a marker: to the first place that is not before the marker, or to a
-- place before it that has no next one
pub data Walk : Type 0 where
  Comes : (place : Place) → Walk
  Sticks : (place : Place) → (why : Why) → Walk

-- from a place that is before the marker, or is not, on to the next place
abbrev pub walk_by : (Place → Walk) → Place → Bool → Result Place Why → Walk
walk_by from p false next = Comes p
walk_by from p true (Ok q) = from q
walk_by from p true (Err why) = Sticks p why

-- at most n instructions on, to a marker
unfoldable pub walk : Alone → Marker → ℕ → Place → Walk
walk a wanted zero p = Comes p
walk a wanted (suc n) p = walk_by (walk a wanted n) p (marker_lt (marker_of p.standing) wanted) (next_or_why a p)

-- a marker as a number, in the order of markers: a task whose marker rises with each instruction is
-- before another marker for no more instructions than the number of that one
abbrev pub height : Marker → ℕ
height m = (m.epoch * EPOCH_LENGTH + m.count) * 2 ^ 32 + m.pc

-- on to a marker
unfoldable pub walk_to : Alone → Marker → Place → Walk
walk_to a wanted p = walk a wanted (height wanted) p
