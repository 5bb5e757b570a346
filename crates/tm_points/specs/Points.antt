-- The points from which a window can be replayed.
use Rattle.std.specs.Prelude.{ℕ, ◌+◌, Bool, List, filter, is_none}
use Rattle.std.specs.List.{range_with_len}
use Rattle.tm_log.specs.Window.{WindowView}
use Rattle.tm_points.specs.Finder.{lost_of}

-- nothing is lost that a replay from the point needs
abbrev pub is_accepted : WindowView → ℕ → Bool
is_accepted w point = is_none (lost_of w point)

-- the accepted points, rising: those of 0 up to the number of control entries
abbrev pub points_of : WindowView → List ℕ
points_of w = filter (is_accepted w) (range_with_len 0 (w.control.total + 1))
