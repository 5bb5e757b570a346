-- The script that a number makes, by a linear congruential generator.
use Rattle.std.specs.Prelude.{ℕ, zero, suc, ◌+◌, ◌*◌, ◌/◌, ◌%◌, ◌^◌, List, [], ◌∷◌, bit_and}
use Rattle.tm_marker.specs.declared.entries.Slice.{Slice}
use Rattle.tm_system.specs.Telling.{below}

-- the generator's number after another
abbrev pub next_number : ℕ → ℕ
next_number x = (1664525 * x + 1013904223) % 2 ^ 32

-- the generator's number after so many steps from a first one
unfoldable pub number_after : ℕ → ℕ → ℕ
number_after first zero = first
number_after first (suc steps) = next_number (number_after first steps)

-- the slice that a number makes, of 1 to 1,000 instructions: line 0 arrives, and of the lines 1 and 2 those whose
-- bits are set in x / 256; the word of port 0 is the number
abbrev pub slice_by : ℕ → Slice
slice_by x = record {
  length = 1 + x / 65536 % 1000;
  mask = 1 + bit_and (x / 256) 6;
  ports = x ∷ 0 ∷ 0 ∷ 0 ∷ [];
}

-- so many slices from a first number on: the generator makes a step before each of them
unfoldable pub slices_from : ℕ → ℕ → List Slice
slices_from first count = below count (λ done. slice_by (number_after first (done + 1)))

-- the 20,000 slices that a number makes
abbrev pub make_script : ℕ → List Slice
make_script number = slices_from number 20000
