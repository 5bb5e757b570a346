-- A line of a plan has no more tokens than a slice says.
use Rattle.std.proofs.Common.{◌≡◌, ℕ, ◌<◌, Bool, true, false, List, [], ◌∷◌, length, if◌then◌else◌, Err, refl, arith}
use Rattle.std.specs.Prelude.{codes}
use Rattle.std.specs.Str.{bytes_eq}
use Rattle.tm_marker.specs.declared.entries.Slice.{Slice}
use Rattle.tm_lines.specs.declared.fault.Reason.TheVariants.{Form}
use Rattle.tm_lines.specs.Steps.{◌>>=◌}
use Rattle.tm_image.specs.Plan.{slice_in, new_slice, plan_line}

long_words : (slice : Bool) (slices : List Slice) (a b c d e f g : List ℕ) (rest : List (List ℕ))
    → (if slice then slice_in (a ∷ b ∷ c ∷ d ∷ e ∷ f ∷ g ∷ rest) >>= new_slice slices else Err Form) ≡ Err Form
long_words true slices a b c d e f g rest = refl
long_words false slices a b c d e f g rest = refl

pub long_slice : (slices : List Slice) (tokens : List (List ℕ)) → 7 < length tokens → plan_line slices tokens ≡ Err Form
long_slice slices [] long = absurd (omega (long, arith))
long_slice slices (k ∷ []) long = absurd (omega (long, arith))
long_slice slices (k ∷ a ∷ []) long = absurd (omega (long, arith))
long_slice slices (k ∷ a ∷ b ∷ []) long = absurd (omega (long, arith))
long_slice slices (k ∷ a ∷ b ∷ c ∷ []) long = absurd (omega (long, arith))
long_slice slices (k ∷ a ∷ b ∷ c ∷ d ∷ []) long = absurd (omega (long, arith))
long_slice slices (k ∷ a ∷ b ∷ c ∷ d ∷ e ∷ []) long = absurd (omega (long, arith))
long_slice slices (k ∷ a ∷ b ∷ c ∷ d ∷ e ∷ f ∷ []) long = absurd (omega (long, arith))
long_slice slices (k ∷ a ∷ b ∷ c ∷ d ∷ e ∷ f ∷ g ∷ rest) long =
    long_words (bytes_eq k (codes "slice")) slices a b c d e f g rest
