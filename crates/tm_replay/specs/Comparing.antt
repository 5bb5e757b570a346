-- How the outputs of a replay are compared with those that a window has, one after another.
use Rattle.std.specs.Prelude.{ℕ, ◌-◌, ◌==◌, nat_le, if◌then◌else◌, List, [], ◌∷◌, flat_map, Option, Some, None}
use Rattle.std.specs.Option.{option_or}
use Rattle.tm_marker.specs.declared.entries.OutputEntry.{OutputEntry}
use Rattle.tm_ring.specs.Kept.{Kept, item_of}
use Rattle.tm_system.specs.declared.diverged.Diverged.{Diverged}
use Rattle.tm_system.specs.Replaying.{Shown, shown_with, output_eq, other_at}
use Rattle.tm_text.specs.declared.seen.Track.{Track}
use Rattle.tm_text.specs.Views.{view_of}

-- the logged output in the place of the one that is so many from the end of those that were made, where it is
-- kept
abbrev pub logged_at : Kept OutputEntry → ℕ → Option OutputEntry
logged_at logged left = if nat_le left logged.total then item_of logged (logged.total - left) else None

-- an output that is not the one that was logged in its place
abbrev pub other_by : Shown → Option OutputEntry → Option Diverged
other_by made None = None
other_by made (Some logged) = if output_eq logged made.output then None else Some (other_at made logged)

-- the oldest of them, among outputs of which the first is so many from the end
unfoldable pub others_from : Kept OutputEntry → ℕ → List Shown → Option Diverged
others_from logged left [] = None
others_from logged left (made ∷ rest) = option_or (other_by made (logged_at logged left)) (others_from logged (left - 1) rest)

-- the outputs that are shown with the running task at the end, of this number
abbrev pub shown_end : ℕ → ℕ → Track → List Shown
shown_end seq running track = if track.last.task == running then shown_with seq (view_of track.last) track.outputs else []

abbrev pub shown_ends : ℕ → ℕ → List Track → List Shown
shown_ends seq running tracks = flat_map (shown_end seq running) tracks
