-- What the control entries and the tail of a window demand of a task by itself, from a point on.
use Rattle.std.specs.Prelude.{ℕ, ◌+◌, Bool, true, false, ◌==◌, if◌then◌else◌, List, [], ◌∷◌, ◌++◌}
use Rattle.tm_marker.specs.declared.marker.Marker.{Marker}
use Rattle.tm_marker.specs.declared.entries.Kind.{Kind}
use Rattle.tm_marker.specs.declared.entries.Kind.TheVariants.{Preempted, Waits, Ends, Fault, Shutdown, Idle}
use Rattle.tm_marker.specs.declared.entries.Switch.{Switch}

-- how a demand is met: the task goes on to the marker, where the text begins; or it goes on to it and
-- leaves the processor there, by a fault where `faults`; or it stands at it; or it goes on to it and runs
-- there at the end
pub data Way : Type 0 where
  Starts : Way
  Leaves : (faults : Bool) → Way
  Stands : Way
  Runs : Way

-- a demand: the number of the control entry that makes it, the marker, and how the task is to get there.
-- The start's number is the point, and the end's is one more than all control entries.
pub record Demand : Type 0 where
  pub seq : ℕ
  pub at : Marker
  pub way : Way

abbrev pub is_fault : Kind → Bool
is_fault Preempted = false
is_fault Waits = false
is_fault Ends = false
is_fault Fault = true
is_fault Shutdown = false
is_fault Idle = false

-- what a control entry demands of the task that it comes from
abbrev pub left_wanted : ℕ → ℕ → Switch → List Demand
left_wanted task seq entry =
    if entry.from == task then (record { seq = seq; at = entry.from_at; way = Leaves (is_fault entry.kind) }) ∷ [] else []

-- what a control entry demands of the task that it goes to
abbrev pub resumed_wanted : ℕ → ℕ → Switch → List Demand
resumed_wanted task seq entry =
    if entry.to == task then (record { seq = seq; at = entry.to_at; way = Stands }) ∷ [] else []

-- what control entries demand of a task, of which the first has this number
unfoldable pub wanted_by : ℕ → ℕ → List Switch → List Demand
wanted_by task seq [] = []
wanted_by task seq (entry ∷ entries) =
    left_wanted task seq entry ++ (resumed_wanted task seq entry ++ wanted_by task (seq + 1) entries)

-- what the point demands: where the task stands there
abbrev pub start_wanted : ℕ → Marker → Demand
start_wanted point start = record { seq = point; at = start; way = Starts }

-- what the tail demands: where the task stands at the end, to which the running task goes on
abbrev pub last_wanted : ℕ → ℕ → ℕ → Marker → Demand
last_wanted task seq running last = record { seq = seq; at = last; way = if running == task then Runs else Stands }

-- all demands on a task, in rising number: of a point and the marker there, of the control entries after
-- it, and of the tail, whose number is one more than the total of the control entries
abbrev pub wanted_of : ℕ → ℕ → Marker → List Switch → ℕ → ℕ → Marker → List Demand
wanted_of task point start entries total running last =
    start_wanted point start ∷ (wanted_by task (point + 1) entries ++ last_wanted task (total + 1) running last ∷ [])
