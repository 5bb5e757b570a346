-- Where the tasks of a window stand at the points of its run.
use Rattle.std.specs.Prelude.{ℕ, ◌-◌, ◌==◌, List, drop, find, slice_get, unwrap_or, option_map, Option}
use Rattle.tm_marker.specs.declared.marker.Marker.{Marker}
use Rattle.tm_marker.specs.declared.entries.Switch.{Switch}
use Rattle.tm_ring.specs.Kept.{Kept, first_of}
use Rattle.tm_log.specs.Window.{WindowView, zero_marker}

-- the kept items from a number on
abbrev pub items_from : {X : Type 0} → Kept X → ℕ → List X
items_from ring number = drop (number - first_of ring) ring.items

-- the kept control entries from a ring number on
abbrev pub entries_from : Kept Switch → ℕ → List Switch
entries_from control number = items_from control number

-- the marker with which the first of the entries that switches to a task resumes it
abbrev pub resumed_in : List Switch → ℕ → Option Marker
resumed_in entries task = option_map (λ entry. entry.to_at) (find (λ entry. entry.to == task) entries)

-- a task's marker at the last moment
abbrev pub tail_marker : WindowView → ℕ → Marker
tail_marker w task = unwrap_or (slice_get w.tail.at task) zero_marker

-- a task's marker at a point. Point 0 is boot, and point P is right after the entry of ring number
-- P - 1. A task that doesn't run stands still, so its marker is the one with which it is next resumed,
-- by that entry or a later one, or its last one where none resumes it.
abbrev pub marker_at_point : WindowView → ℕ → ℕ → Marker
marker_at_point w point task =
    unwrap_or (resumed_in (entries_from w.control (point - 1)) task) (tail_marker w task)
