-- The slices that a number makes are a script.
use Rattle.std.proofs.Common.{◌≡◌, ℕ, zero, suc, ◌+◌, ◌/◌, ◌<◌, ◌^◌, List, [], ◌∷◌, ◌++◌, length, All, bit_and, refl, ap, arith}
use Rattle.std.proofs.lemmas.Nat.{and_le_r}
use Rattle.std.proofs.lemmas.List.Elements.{All-nil, All-cons, All-push}
use Rattle.tm_marker.specs.declared.entries.Slice.{Slice}
use Rattle.tm_dump.specs.Widths.{IsWord}
use Rattle.tm_image.specs.Plan.{IsSlice}
use Rattle.tm_system.proofs.Below.{length-below}
use Rattle.tm_widths.specs.Numbers.{FitsSlice}
use Rattle.tm_widths.specs.Legible.{IsScript}
use Rattle.tm_make.specs.Script.{next_number, number_after, slice_by, slices_from, make_script}

one_more : (n : ℕ) → n + 1 ≡ suc n
one_more n = omega arith

-- no slices
pub no_slices : (first : ℕ) → slices_from first 0 ≡ []
unfolding slices_from
no_slices first = refl

-- one step more
pub number_more : (first steps : ℕ) → number_after first (steps + 1) ≡ next_number (number_after first steps)
unfolding number_after
number_more first steps = ap (number_after first) (one_more steps)

-- one slice more
pub slices_more : (first count : ℕ) → slices_from first (count + 1) ≡ slices_from first count ++ slice_by (number_after first (count + 1)) ∷ []
unfolding slices_from
slices_more first count = ap (slices_from first) (one_more count)

-- how many there are
pub length-slices : (first count : ℕ) → length (slices_from first count) ≡ count
unfolding slices_from
length-slices first count = length-below count (λ done. slice_by (number_after first (done + 1)))

-- the generator's numbers have 32 bits
number_small : (first steps : ℕ) → first < 2 ^ 32 → number_after first steps < 2 ^ 32
unfolding number_after
number_small first zero small = small
number_small first (suc steps) small = omega arith

-- what holds of each slice that such a number makes
each : (P : Slice → Type 0) → ((x : ℕ) → x < 2 ^ 32 → P (slice_by x)) → (first count : ℕ) → first < 2 ^ 32 → All P (slices_from first count)
unfolding slices_from
each P holds first zero small = All-nil P
each P holds first (suc count) small =
    All-push P (slices_from first count) (slice_by (number_after first (count + 1))) (each P holds first count small)
    (holds (number_after first (count + 1)) (number_small first (count + 1) small))

small_mask : (x : ℕ) → 1 + bit_and (x / 256) 6 < 65536
small_mask x = omega (arith, and_le_r (x / 256) 6)

slice_is : (x : ℕ) → x < 2 ^ 32 → IsSlice (slice_by x)
slice_is x small = record { short = omega arith; lines = small_mask x; ports = refl }

zero_small : IsWord 0
zero_small = omega arith

slice_fits : (x : ℕ) → x < 2 ^ 32 → FitsSlice (slice_by x)
slice_fits x small =
    All-cons IsWord x (0 ∷ 0 ∷ 0 ∷ []) small (All-cons IsWord 0 (0 ∷ 0 ∷ []) zero_small
    (All-cons IsWord 0 (0 ∷ []) zero_small (All-cons IsWord 0 [] zero_small (All-nil IsWord))))

-- a number makes a script
pub makes_script : (number : ℕ) → number < 2 ^ 32 → IsScript (make_script number)
makes_script number small = record {
  few = omega (arith, length-slices number 20000);
  slices = each IsSlice slice_is number 20000 small;
  ports = each FitsSlice slice_fits number 20000 small;
}
