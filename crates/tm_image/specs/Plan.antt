-- What a plan is, and how it is written.
use Rattle.std.specs.Prelude.{◌≡◌, ℕ, ◌<◌, ◌≤◌, false, ◌||◌, List, [], ◌∷◌, ◌++◌, length, nat_lt, codes, if◌then◌else◌, Result, Ok, Err}
use Rattle.std.specs.Str.{bytes_eq}
use Rattle.tm_marker.specs.declared.entries.Slice.{Slice}
use Rattle.tm_marker.specs.declared.entries.TheConstants.{LONGEST_SLICE, PORTS}
use Rattle.tm_lines.specs.declared.fault.Reason.{Reason}
use Rattle.tm_lines.specs.declared.fault.Reason.TheVariants.{Form}
use Rattle.tm_lines.specs.declared.fault.Fault.{Fault}
use Rattle.tm_lines.specs.Steps.{◌>>=◌, tested}
use Rattle.tm_lines.specs.Lines.{pieces, header, from_header, lines_on}
use Rattle.tm_lines.specs.Numbers.{number_in}

-- a slice runs no more instructions than it may, after an arrival of some of 16 lines with a word for each port
pub record IsSlice (slice : Slice) : Type 0 where
  pub short : slice.length ≤ LONGEST_SLICE
  pub lines : slice.mask < 65536
  pub ports : length slice.ports ≡ PORTS

-- the four port words, which are 0 where none is given
abbrev pub ports_in : List (List ℕ) → Result (List ℕ) Reason
ports_in [] = Ok (0 ∷ 0 ∷ 0 ∷ 0 ∷ [])
ports_in (port0 ∷ port1 ∷ port2 ∷ port3 ∷ []) = do
  p0 ← number_in port0
  p1 ← number_in port1
  p2 ← number_in port2
  p3 ← number_in port3
  Ok (p0 ∷ p1 ∷ p2 ∷ p3 ∷ [])
ports_in _ = Err Form

-- what `slice LENGTH MASK` and `slice LENGTH MASK P0 P1 P2 P3` say
abbrev pub slice_in : List (List ℕ) → Result Slice Reason
slice_in (first ∷ second ∷ rest) = do
  words ← ports_in rest
  count ← number_in first
  lines ← number_in second
  Ok (record { length = count; mask = lines; ports = words })
slice_in _ = Err Form

-- the slices with one more at the end
abbrev pub new_slice : List Slice → Slice → Result (List Slice) Reason
new_slice slices slice = tested
    (nat_lt LONGEST_SLICE slice.length || nat_lt 65535 slice.mask)
    false
    false
    (slices ++ slice ∷ [])

-- a line of a plan
abbrev pub plan_line : List Slice → List (List ℕ) → Result (List Slice) Reason
plan_line slices [] = Err Form
plan_line slices (keyword ∷ words) =
    if bytes_eq keyword (codes "slice") then slice_in words >>= new_slice slices else Err Form

-- the slices of a plan, or the first fault: the header `tmplan 1`, and one line for each slice
unfoldable pub plan_of : List ℕ → Result (List Slice) Fault
plan_of bytes = do
  body ← from_header (header (codes "tmplan") (codes "1")) 1 (pieces bytes)
  last ← lines_on plan_line body.0 [] body.1
  Ok last.1
