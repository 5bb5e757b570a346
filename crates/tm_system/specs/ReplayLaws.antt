-- How a task goes on to a marker, one instruction after another.
use Rattle.std.specs.Prelude.{◌≡◌, ◌≤◌, true, false, length, Ok, Err}
use Rattle.tm_marker.specs.declared.marker.Marker.{Marker}
use Rattle.tm_marker.specs.Order.{marker_lt}
use Rattle.tm_task.specs.Standing.{IsTask, marker_of}
use Rattle.tm_task.specs.Place.{Place}
use Rattle.tm_task.specs.PlaceLaws.{standing_task}
use Rattle.tm_system.specs.declared.diverged.Why.{Why}
use Rattle.tm_system.specs.Alone.{Alone, Comes, Sticks, next_or_why, walk_to}

-- a task with a text of at most 16,384 words is at the place
pub record IsWalker (a : Alone) (p : Place) : Type 0 where
  pub few : length a.text.words ≤ 16384
  pub task : IsTask (standing_task a.entry p.standing)

-- it has come to the marker, or is past it
abbrev pub WalksEnd : Type 0
WalksEnd = (a : Alone) (wanted : Marker) (p : Place) → marker_lt (marker_of p.standing) wanted ≡ false → walk_to a wanted p ≡ Comes p

-- where it is before the marker, it comes where it comes from the next place
abbrev pub WalksGoOn : Type 0
WalksGoOn = (a : Alone) (wanted : Marker) (p q : Place) → IsWalker a p → marker_lt (marker_of p.standing) wanted ≡ true →
    next_or_why a p ≡ Ok q → walk_to a wanted p ≡ walk_to a wanted q

-- where there is no next place, it stays
abbrev pub WalksStick : Type 0
WalksStick = (a : Alone) (wanted : Marker) (p : Place) (why : Why) → IsWalker a p → marker_lt (marker_of p.standing) wanted ≡ true →
    next_or_why a p ≡ Err why → walk_to a wanted p ≡ Sticks p why

-- the next place is again one of a task
abbrev pub WalkersStay : Type 0
WalkersStay = (a : Alone) (p q : Place) → IsWalker a p → next_or_why a p ≡ Ok q → IsWalker a q
