-- The one spelling of a tape: the text of the plan of its slices.
use Rattle.std.specs.Prelude.{ℕ, ◌/◌, ◌%◌, ◌^◌, ◌<◌, List, [], ◌∷◌, ◌++◌, codes, decimal, flat_map, All}
use Rattle.tm_marker.specs.declared.entries.Slice.{Slice}
use Rattle.tm_image.specs.Plan.{IsSlice}
use Rattle.tm_spelling.specs.Lines.{digit, hex8, line}

-- a mask of 16 lines in four digits
unfoldable pub hex4 : ℕ → List ℕ
hex4 n = digit (n / 16 ^ 3 % 16) ∷ digit (n / 16 ^ 2 % 16) ∷ digit (n / 16 % 16) ∷ digit (n % 16) ∷ []

-- a space and a port word
abbrev pub port_text : ℕ → List ℕ
port_text word = codes " 0x" ++ hex8 word

-- slice LENGTH MASK P0 P1 P2 P3
unfoldable pub slice_line : Slice → List ℕ
slice_line slice =
    line (codes "slice " ++ decimal slice.length ++ codes " 0x" ++ hex4 slice.mask ++ flat_map port_text slice.ports)

-- the header, and a line for each slice
unfoldable pub tape_text : List Slice → List ℕ
tape_text slices = line (codes "tmplan 1") ++ flat_map slice_line slices

-- a slice as it stands in memory: each port word has 32 bits
pub record IsTaped (slice : Slice) : Type 0 where
  pub is : IsSlice slice
  pub words : All (λ word. word < 2 ^ 32) slice.ports
