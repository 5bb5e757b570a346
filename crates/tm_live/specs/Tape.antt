-- The tape: the slices that a recorder was given beside devices.
use Rattle.std.specs.Prelude.{ℕ, ◌-◌, List, [], ◌∷◌, ◌++◌, map}
use Rattle.std.specs.List.{zip}
use Rattle.tm_marker.specs.declared.entries.Slice.{Slice}

-- the slices so far, and for how many more there is room
pub record TapeView : Type 0 where
  pub slices : List Slice
  pub room : ℕ

-- the tape with one slice more, which takes up its room
abbrev pub taped : TapeView → Slice → TapeView
taped tape slice = record { slices = tape.slices ++ slice ∷ []; room = tape.room - 1 }

-- a slice of a length, with the lines of a take and the port words of a latch
abbrev pub slice_of : ℕ → ℕ × List ℕ → Slice
slice_of len (mask, ports) = record { length = len; mask = mask; ports = ports }

-- slices of one length, the k-th with the lines of the k-th take and the port words of the k-th latch
abbrev pub tape_of : List ℕ → List (List ℕ) → ℕ → List Slice
tape_of takes latches len = map (slice_of len) (zip takes latches)
