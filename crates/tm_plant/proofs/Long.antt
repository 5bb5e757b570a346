-- A line of a plant has no more tokens than the longest of its forms.
use Rattle.std.proofs.Common.{◌≡◌, ℕ, ◌<◌, Bool, true, false, List, [], ◌∷◌, length, if◌then◌else◌, Result, Ok, Err, refl, arith}
use Rattle.std.specs.Prelude.{codes}
use Rattle.std.specs.Str.{bytes_eq}
use Rattle.tm_lines.specs.declared.fault.Reason.{Reason}
use Rattle.tm_lines.specs.declared.fault.Reason.TheVariants.{Form}
use Rattle.tm_lines.specs.Steps.{◌>>=◌}
use Rattle.tm_plant.specs.declared.plant.Act.{Act}
use Rattle.tm_plant.specs.declared.said.Keyword.{Keyword}
use Rattle.tm_plant.specs.declared.said.Keyword.TheVariants.{Device, Raise, Set, Hold}
use Rattle.tm_plant.specs.Plant.{words_on, plant_line}

long_words : (devices : List (List Act)) (keyword : Keyword) (a b c d : List ℕ) (rest : List (List ℕ))
    → words_on devices keyword (a ∷ b ∷ c ∷ d ∷ rest) ≡ Err Form
long_words devices Device a b c d rest = refl
long_words devices Raise a b c d rest = refl
long_words devices Set a b c d rest = refl
long_words devices Hold a b c d rest = refl

-- the keyword that a token spells, by which of the four it is
abbrev known : Bool → Bool → Bool → Bool → Result Keyword Reason
known device raise set hold =
    if device then Ok Device else (if raise then Ok Raise else (if set then Ok Set else (if hold then Ok Hold else Err Form)))

long_known : (devices : List (List Act)) (device raise set hold : Bool) (words : List (List ℕ))
    → ((keyword : Keyword) → words_on devices keyword words ≡ Err Form)
    → (known device raise set hold >>= (λ (keyword : Keyword). words_on devices keyword words)) ≡ Err Form
long_known devices true raise set hold words each = each Device
long_known devices false true set hold words each = each Raise
long_known devices false false true hold words each = each Set
long_known devices false false false true words each = each Hold
long_known devices false false false false words each = refl

pub long_plant_line : (devices : List (List Act)) (tokens : List (List ℕ)) → 4 < length tokens → plant_line devices tokens ≡ Err Form
long_plant_line devices [] long = absurd (omega (long, arith))
long_plant_line devices (k ∷ []) long = absurd (omega (long, arith))
long_plant_line devices (k ∷ a ∷ []) long = absurd (omega (long, arith))
long_plant_line devices (k ∷ a ∷ b ∷ []) long = absurd (omega (long, arith))
long_plant_line devices (k ∷ a ∷ b ∷ c ∷ []) long = absurd (omega (long, arith))
long_plant_line devices (k ∷ a ∷ b ∷ c ∷ d ∷ rest) long =
    long_known devices (bytes_eq k (codes "device")) (bytes_eq k (codes "raise")) (bytes_eq k (codes "set")) (bytes_eq k (codes "hold"))
    (a ∷ b ∷ c ∷ d ∷ rest) (λ keyword. long_words devices keyword a b c d rest)
