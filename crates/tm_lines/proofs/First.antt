-- The fault of a file's lines is that of the first line that is refused, and conversely.
use Rattle.std.proofs.Common.{◌≡◌, ℕ, ◌+◌, List, [], ◌∷◌, ◌++◌, Result, Ok, Err, refl, subst, arith}
use Rattle.tm_lines.specs.declared.fault.Reason.{Reason}
use Rattle.tm_lines.specs.declared.fault.Fault.{Fault}
use Rattle.tm_lines.specs.Steps.{◌>>=◌, on_line}
use Rattle.tm_lines.specs.Lines.{step, lines_on}
use Rattle.tm_lines.specs.Laws.{IsFirstFault}
use Rattle.tm_lines.proofs.Steps.{bound}

-- after lines that are taken, the others go on from what they left
lines_on-append : {S : Type 0} (next : S → List (List ℕ) → Result S Reason) (number : ℕ) (s : S) (before after : List (List ℕ)) (last : ℕ × S)
    → lines_on next number s before ≡ Ok last
    → lines_on next number s (before ++ after) ≡ lines_on next last.0 last.1 after
lines_on-append {S = S} next number s [] after last e =
    let same : (number, s) ≡ last = cc e in
    subst (λ (x : ℕ × S). lines_on next number s after ≡ lines_on next x.0 x.1 after) same refl
lines_on-append {S = S} next number s (line ∷ rest) after last e =
    let taken = bound (on_line number (step next s line)) (λ t. lines_on next (number + 1) t rest) last e in
    rw taken.1.0 (lines_on-append next (number + 1) taken.0 rest after last taken.1.1)

-- what the first line that is refused gives, by what that line gives
told_at : {S : Type 0} (next : S → List (List ℕ) → Result S Reason) (number : ℕ) (s : S) (line : List ℕ) (rest : List (List ℕ)) (fault : Fault) (r : Result S Reason)
    → step next s line ≡ r
    → (on_line number r >>= (λ t. lines_on next (number + 1) t rest)) ≡ Err fault
    → ((t : S) → lines_on next (number + 1) t rest ≡ Err fault → IsFirstFault next (number + 1) t rest fault)
    → IsFirstFault next number s (line ∷ rest) fault
told_at {S = S} next number s line rest fault (Err reason) given e more =
    let F : Fault = record { line = number; reason = reason } in
    let same : F ≡ fault = cc e in
    subst (λ (f : Fault). IsFirstFault next number s (line ∷ rest) f) same (record {
      before = [];
      line = line;
      rest = rest;
      state = s;
      whole = refl;
      number_is = omega arith;
      passed = refl;
      refused = given;
    })
told_at {S = S} next number s line rest fault (Ok t) given e more =
    let first = more t e in
    record {
      before = line ∷ first.before;
      line = first.line;
      rest = first.rest;
      state = first.state;
      whole = cc first.whole;
      number_is = omega (arith, first.number_is);
      passed = rw given first.passed;
      refused = first.refused;
    }

pub first_told : {S : Type 0} (next : S → List (List ℕ) → Result S Reason) (number : ℕ) (s : S) (lines : List (List ℕ)) (fault : Fault)
    → lines_on next number s lines ≡ Err fault
    → IsFirstFault next number s lines fault
first_told next number s [] fault e = cc e
first_told {S = S} next number s (line ∷ rest) fault e =
    told_at next number s line rest fault (step next s line) refl e
    (λ t more. first_told next (number + 1) t rest fault more)

pub first_gives : {S : Type 0} (next : S → List (List ℕ) → Result S Reason) (number : ℕ) (s : S) (lines : List (List ℕ)) (fault : Fault)
    → IsFirstFault next number s lines fault
    → lines_on next number s lines ≡ Err fault
first_gives next number s lines fault first =
    rw (first.whole, lines_on-append next number s first.before (first.line ∷ first.rest) (fault.line, first.state) first.passed, first.refused) refl
