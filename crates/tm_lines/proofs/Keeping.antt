-- What each line of a file keeps, the file keeps.
use Rattle.std.proofs.Common.{◌≡◌, ℕ, ◌+◌, List, [], ◌∷◌, Result, Ok, subst}
use Rattle.tm_lines.specs.declared.fault.Reason.{Reason}
use Rattle.tm_lines.specs.Steps.{on_line}
use Rattle.tm_lines.specs.Lines.{said, go_on, step, lines_on}
use Rattle.tm_lines.proofs.Steps.{bound, on_line_gave}

-- what each line of tokens keeps, a line keeps
step_keeps : {S : Type 0} (P : S → Type 0) (next : S → List (List ℕ) → Result S Reason)
    → ((s : S) (found : List (List ℕ)) (t : S) → next s found ≡ Ok t → P s → P t)
    → (s : S) (found : List (List ℕ)) (t : S)
    → go_on next s found ≡ Ok t
    → P s
    → P t
step_keeps P next keeps s [] t e p = let same : s ≡ t = cc e in subst P same p
step_keeps P next keeps s (first ∷ rest) t e p = keeps s (first ∷ rest) t e p

-- what each line of tokens keeps, a file keeps
pub lines_keep : {S : Type 0} (P : S → Type 0) (next : S → List (List ℕ) → Result S Reason)
    → ((s : S) (found : List (List ℕ)) (t : S) → next s found ≡ Ok t → P s → P t)
    → (number : ℕ) (text : List (List ℕ)) (s : S) (last : ℕ × S)
    → lines_on next number s text ≡ Ok last
    → P s
    → P last.1
lines_keep {S = S} P next keeps number [] s last e p =
    let same : (number, s) ≡ last = cc e in
    subst (λ (x : ℕ × S). P x.1) same p
lines_keep {S = S} P next keeps number (line ∷ rest) s last e p =
    let taken = bound (on_line number (step next s line)) (λ after. lines_on next (number + 1) after rest) last e in
    let gave = on_line_gave number (step next s line) taken.0 taken.1.0 in
    let found = bound (said line) (go_on next s) taken.0 gave in
    lines_keep P next keeps (number + 1) rest taken.0 last taken.1.1 (step_keeps P next keeps s found.0 taken.0 found.1.1 p)
