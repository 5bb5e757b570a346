-- A line of more tokens than it may have is refused as it is by all its tokens.
use Rattle.std.proofs.Common.{◌≡◌, ℕ, ◌<◌, Bool, true, false, List, [], ◌∷◌, length, nat_lt, if◌then◌else◌, Option, Some, None, Result, Ok, Err, IfSome, refl, sym, arith}
use Rattle.std.proofs.lemmas.Bool.{ltb-true}
use Rattle.tm_lines.specs.declared.fault.Reason.{Reason}
use Rattle.tm_lines.specs.declared.fault.Reason.TheVariants.{Form}
use Rattle.tm_lines.specs.Steps.{◌>>=◌}
use Rattle.tm_lines.specs.Lines.{said, within, said_within, Header, is_opened, opening, go_on, step}

-- what more tokens than these make is Form
abbrev pub RefusesMore : {A : Type 0} → (List (List ℕ) → Result A Reason) → Option ℕ → Type 0
RefusesMore next most = IfSome most (λ (m : ℕ). (tokens : List (List ℕ)) → m < length tokens → next tokens ≡ Err Form)

more : {A : Type 0} (next : List (List ℕ) → Result A Reason) (most : ℕ) (found : List (List ℕ))
    → RefusesMore next (Some most) → (long : Bool) → (long ≡ true → most < length found)
    → ((if long then Err Form else Ok found) >>= next) ≡ next found
more next most found refuses false is = refl
more next most found refuses true is = sym (refuses found (is refl))

bounded : {A : Type 0} (next : List (List ℕ) → Result A Reason) (most : Option ℕ) (found : List (List ℕ))
    → RefusesMore next most
    → (within most found >>= next) ≡ next found
bounded next None found refuses = refl
bounded next (Some most) found refuses = more next most found refuses (nat_lt most (length found)) (ltb-true most (length found))

all_bounded : {A : Type 0} (next : List (List ℕ) → Result A Reason) (most : Option ℕ) (r : Result (List (List ℕ)) Reason)
    → RefusesMore next most
    → ((r >>= within most) >>= next) ≡ (r >>= next)
all_bounded next most (Ok found) refuses = bounded next most found refuses
all_bounded next most (Err reason) refuses = refl

-- the same of a line that is not skipped
long_said : {S : Type 0} (next : S → List (List ℕ) → Result S Reason) (most : Option ℕ) (state : S)
    → IfSome most (λ (m : ℕ). (state : S) (tokens : List (List ℕ)) → m < length tokens → next state tokens ≡ Err Form)
    → RefusesMore (go_on next state) most
long_said next None state refuses = tt
long_said next (Some most) state refuses = λ tokens long. each tokens long
  where
    each : (tokens : List (List ℕ)) → most < length tokens → go_on next state tokens ≡ Err Form
    each [] long = absurd (omega (long, arith))
    each (first ∷ rest) long = refuses state (first ∷ rest) long

pub long_line : {S : Type 0} (next : S → List (List ℕ) → Result S Reason) (most : Option ℕ) (state : S) (line : List ℕ)
    → IfSome most (λ (m : ℕ). (state : S) (tokens : List (List ℕ)) → m < length tokens → next state tokens ≡ Err Form)
    → (said_within most line >>= go_on next state) ≡ step next state line
long_line next most state line refuses = all_bounded (go_on next state) most (said line) (long_said next most state refuses)

-- no header has more than two tokens
long_header : (h : Header) (tokens : List (List ℕ)) → 2 < length tokens → is_opened h tokens ≡ Err Form
long_header h [] long = absurd (omega (long, arith))
long_header h (first ∷ []) long = absurd (omega (long, arith))
long_header h (first ∷ second ∷ []) long = absurd (omega (long, arith))
long_header h (first ∷ second ∷ third ∷ rest) long = refl

pub long_opening : (h : Header) (line : List ℕ) → (said_within (Some 2) line >>= is_opened h) ≡ opening h line
long_opening h line = all_bounded (is_opened h) (Some 2) (said line) (long_header h)
