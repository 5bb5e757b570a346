-- A replay of a task, as the code holds it, and what its calls make of it.
use Rattle.std.specs.Prelude.{◌≡◌, ℕ, ◌<◌, map, length, Result, Ok, Err, All}
use Rattle.tm_marker.specs.declared.entries.Switch.{Switch}
use Rattle.tm_marker.specs.declared.marker.Marker.{Marker}
use Rattle.tm_ring.specs.Kept.{Kept}
use Rattle.tm_system.specs.Tracing.{Tracing, Going, On, Off, all_used, track_of}
use Rattle.tm_system.specs.Wanted.{Way}
use Rattle.tm_system.specs.declared.diverged.Diverged.{Diverged}
use Rattle.tm_text.specs.Views.{view_of, stop_view, track_view}
use Rattle.tm_text.specs.declared.seen.Track.{Track}
use Rattle.tm_replay.specs.declared.fault.ReplayFault.{ReplayFault}
use Rattle.tm_replay.specs.declared.fault.ReplayFault.TheVariants.{Lost, Memory, Diverged as HasDiverged}
use Rattle.tm_replay.specs.declared.tracer.Tracer.{Tracer}
use Rattle.tm_replay.specs.Walking.{alone_of, place_of, IsSound}

abbrev pub tracing_of : Tracer → Tracing
tracing_of t = record {
  place = place_of t.walker;
  start = view_of t.start;
  printed = t.printed;
  stops = map stop_view t.stops;
}

-- the task is sound, its start is its own, and as many data words were printed as it has
pub record IsTracer (t : Tracer) : Type 0 where
  pub sound : IsSound t.walker
  pub own : t.start.task ≡ t.walker.number
  pub printed : length t.printed ≡ length t.walker.task.standing.body.words

-- the demands were met, or the first that was not is told
abbrev pub Met : {X : Type 0} → Going → Result X ReplayFault → Tracer → Type 0
Met going (Ok x) new = going ≡ On (tracing_of new)
Met going (Err (Lost l)) new = ⊥
Met going (Err (HasDiverged d)) new = going ≡ Off d
Met going (Err Memory) new = Unit {0}

-- in whichever kept control entry a task leaves the processor, it does so in an epoch before this one
abbrev pub LeavesBefore : ℕ → Kept Switch → ℕ → Type 0
LeavesBefore task control epoch = All (λ entry. entry.from ≡ task → entry.from_at.epoch < epoch) control.items

-- what a replay of a task comes to in the end: what the text tells of it, or the first demand that it
-- doesn't meet
pub record IsTold (replay : Result Tracing Diverged) (track : Track) : Type 0 where
  pub tracing : Tracing
  pub replays : replay ≡ Ok tracing
  pub told : track_view track ≡ track_of tracing

abbrev pub Tells : Result Tracing Diverged → Result Track ReplayFault → Type 0
Tells replay (Ok track) = IsTold replay track
Tells replay (Err (Lost l)) = ⊥
Tells replay (Err (HasDiverged d)) = replay ≡ Err d
Tells replay (Err Memory) = Unit {0}

-- of a task after its last demand
abbrev pub Closed : Tracer → ℕ → Marker → Result Track ReplayFault → Type 0
Closed t seq wanted result =
    (way : Way) → Tells (all_used (alone_of t.walker) (record { seq = seq; at = wanted; way = way }) (tracing_of t)) result
