-- What every next place of a task keeps.
use Rattle.std.specs.Prelude.{◌≡◌, ℕ, ◌≤◌, List, length, Some}
use Rattle.tm_marker.specs.Order.{IsBefore}
use Rattle.tm_marker.specs.declared.entries.DataEntry.{DataEntry}
use Rattle.tm_rv.specs.Code.{Text}
use Rattle.tm_task.specs.Place.{Place, next_place}
use Rattle.tm_task.specs.Standing.{IsTask, TaskView, Standing, marker_of}

-- a task that is entered here stands here
abbrev pub standing_task : ℕ → Standing → TaskView
standing_task entry s = record { entry = entry; standing = s }

-- the marker of each next place is greater
abbrev pub PlacesRise : Type 0
PlacesRise =
    (entry task : ℕ) (text : Text) (log : List DataEntry) (p q : Place) → length text.words ≤ 16384 →
    IsTask (standing_task entry p.standing) → next_place entry task text log p ≡ Some q →
    IsBefore (marker_of p.standing) (marker_of q.standing)

-- each next place is one of a task
abbrev pub PlacesStay : Type 0
PlacesStay =
    (entry task : ℕ) (text : Text) (log : List DataEntry) (p q : Place) → length text.words ≤ 16384 →
    IsTask (standing_task entry p.standing) → next_place entry task text log p ≡ Some q →
    IsTask (standing_task entry q.standing)
