-- How a task by itself meets the demands on it, one after another, and what its text tells of it.
use Rattle.std.specs.Prelude.{ℕ, ◌+◌, true, false, ◌==◌, if◌then◌else◌, List, [], ◌∷◌, ◌++◌, length, Result, Ok, Err}
use Rattle.tm_marker.specs.Order.{marker_eq}
use Rattle.tm_task.specs.Cause.{cause_number}
use Rattle.tm_task.specs.Exec.{Exec, Faults, Calls, Goes, exec}
use Rattle.tm_task.specs.Standing.{Standing, marker_of}
use Rattle.tm_task.specs.Place.{Place}
use Rattle.tm_spelling.specs.Story.{View, changes, nonzero}
use Rattle.tm_spelling.specs.Tracks.{Stop, Track}
use Rattle.tm_system.specs.declared.diverged.Why.{Why}
use Rattle.tm_system.specs.declared.diverged.Why.TheVariants.{Passed, Moved, NoFault, Left}
use Rattle.tm_system.specs.declared.diverged.Diverged.{Diverged}
use Rattle.tm_system.specs.Alone.{Alone, Walk, Comes, Sticks, walk_to}
use Rattle.tm_system.specs.Wanted.{Way, Starts, Leaves, Stands, Runs, Demand}

-- a task in its replay: where it stands, with the outputs that it made since its last stop; how it is
-- printed at the start; its data words as they were printed last; and its stops so far, oldest first
pub record Tracing : Type 0 where
  pub place : Place
  pub start : View
  pub printed : List ℕ
  pub stops : List Stop

-- a replay goes on, or it has found the first demand that the task doesn't meet
pub data Going : Type 0 where
  On : (tracing : Tracing) → Going
  Off : (diverged : Diverged) → Going

-- a task where it stands, with the data words that changed since others were printed
abbrev pub seen : ℕ → Standing → List ℕ → View
seen task s before =
    record { task = task; at = marker_of s; regs = s.body.regs; changed = changes before s.body.words }

-- a task where its text begins: its data words that are not 0 are printed
abbrev pub seen_first : ℕ → Standing → View
seen_first task s =
    record { task = task; at = marker_of s; regs = s.body.regs; changed = nonzero s.body.words }

-- the text of a task begins at a place
abbrev pub begun : ℕ → Place → Tracing
begun task p = record {
  place = record p { made = [] };
  start = seen_first task p.standing;
  printed = p.standing.body.words;
  stops = [];
}

-- the task leaves the processor at a place, by a fault of this cause, or by none where it is 0
abbrev pub stopped : ℕ → ℕ → Tracing → Place → ℕ → Tracing
stopped task seq t p cause = record {
  place = record p { made = [] };
  start = t.start;
  printed = p.standing.body.words;
  stops = t.stops ++ (record {
    seq = seq;
    leave = record { cause = cause; view = seen task p.standing t.printed; outputs = p.made };
  }) ∷ [];
}

-- a demand is not met: where the task stands instead, and why
abbrev pub diverged : Alone → Demand → Standing → Why → Diverged
diverged a d s why = record { seq = d.seq; task = a.task; reached = marker_of s; wanted = d.at; why = why }

-- the task has come to where a control entry says that it faults
abbrev pub meet_fault : Alone → Demand → Tracing → Place → Exec → Going
meet_fault a d t p (Faults cause) = On (stopped a.task d.seq t p (cause_number cause))
meet_fault a d t p (Calls service) = Off (diverged a d p.standing NoFault)
meet_fault a d t p (Goes next back) = Off (diverged a d p.standing NoFault)

-- the task has come to the wanted marker
abbrev pub meet_at : Alone → Demand → Tracing → Place → Way → Going
meet_at a d t p Starts = On (begun a.task p)
meet_at a d t p (Leaves false) = On (stopped a.task d.seq t p 0)
meet_at a d t p (Leaves true) = meet_fault a d t p (exec a.text p.standing.body)
meet_at a d t p Stands = On (record t { place = p })
meet_at a d t p Runs = On (record t { place = p })

-- the task has gone on to a marker
abbrev pub meet_walk : Alone → Demand → Tracing → Walk → Going
meet_walk a d t (Sticks p why) = Off (diverged a d p.standing why)
meet_walk a d t (Comes p) =
    if marker_eq (marker_of p.standing) d.at then meet_at a d t p d.way else Off (diverged a d p.standing Passed)

-- one demand, by the way in which it is to be met
abbrev pub meet_by : Alone → Demand → Tracing → Way → Going
meet_by a d t Starts = meet_walk a d t (walk_to a d.at t.place)
meet_by a d t (Leaves faults) = meet_walk a d t (walk_to a d.at t.place)
meet_by a d t Stands =
    if marker_eq (marker_of t.place.standing) d.at then On t else Off (diverged a d t.place.standing Moved)
meet_by a d t Runs = meet_walk a d t (walk_to a d.at t.place)

-- one demand; after one that was not met no other is looked at
unfoldable pub meet : Alone → Demand → Going → Going
meet a d (On t) = meet_by a d t d.way
meet a d (Off x) = Off x

-- the demands of a list, in order
unfoldable pub meets : Alone → List Demand → Going → Going
meets a [] g = g
meets a (d ∷ ds) g = meets a ds (meet a d g)

-- all data entries were used, or some are left
abbrev pub all_used : Alone → Demand → Tracing → Result Tracing Diverged
all_used a d t =
    if t.place.used == length a.log then Ok t
    else Err (diverged a d t.place.standing (Left (a.first + t.place.used) a.total))

-- after the last demand
abbrev pub closed : Alone → Demand → Going → Result Tracing Diverged
closed a d (On t) = all_used a d t
closed a d (Off x) = Err x

-- what the text tells of a task
abbrev pub track_of : Tracing → Track
track_of t = record {
  start = t.start;
  stops = t.stops;
  last = seen t.start.task t.place.standing t.printed;
  outputs = t.place.made;
}
