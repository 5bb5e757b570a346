-- When two markers are one, and which of two comes first.
use Rattle.std.specs.Prelude.{◌≡◌, Bool, ◌&&◌, ◌||◌, ◌==◌, nat_lt, true}
use Rattle.tm_marker.specs.declared.marker.Marker.{Marker}

-- the markers agree in epoch, count and pc
abbrev pub marker_eq : Marker → Marker → Bool
marker_eq a b = a.epoch == b.epoch && a.count == b.count && a.pc == b.pc

-- the epoch decides first, then the count, then the pc
abbrev pub marker_lt : Marker → Marker → Bool
marker_lt a b =
    nat_lt a.epoch b.epoch ||
    (a.epoch == b.epoch && (nat_lt a.count b.count || (a.count == b.count && nat_lt a.pc b.pc)))

-- the first marker comes before the second
abbrev pub IsBefore : Marker → Marker → Type 0
IsBefore a b = marker_lt a b ≡ true
