-- The first of a text's lines: what stands before the first LF, or the whole text where none stands.
use Rattle.std.proofs.Common.{◌≡◌, ℕ, suc, ◌+◌, ◌-◌, ◌<◌, ◌≤◌, Bool, true, false, not, cond, List, [], ◌∷◌, length, take, drop, Some, None, refl, ap, arith, ltb, eqb, add_comm, add-one}
use Rattle.std.specs.List.{position_or_len, onto_first}
use Rattle.std.proofs.lemmas.Bool.{ltb-true, ltb-false}
use Rattle.std.proofs.lemmas.Grind.{common_steps}
use Rattle.tm_lines.specs.Lines.{is_line_end, pieces}

-- the place of the first LF, or the length
abbrev end_of : List ℕ → ℕ
end_of xs = position_or_len is_line_end xs

-- one more byte before, by whether it is an LF
cut_more : (ends : Bool) (x : ℕ) (xs : List ℕ) (p : ℕ)
    → cond (not ends) (1 + p) 0 < suc (length xs)
    → (p < length xs → pieces xs ≡ take p xs ∷ pieces (drop (p + 1) xs))
    → cond ends ([] ∷ pieces xs) (onto_first x (pieces xs))
    ≡ take (cond (not ends) (1 + p) 0) (x ∷ xs) ∷ pieces (drop (cond (not ends) (1 + p) 0 + 1) (x ∷ xs))
cut_more true x xs p h rest = refl
cut_more false x xs p h rest = rw (rest (omega arith)) (simp (add_comm 1 p, add-one))

cut : (xs : List ℕ) → end_of xs < length xs → pieces xs ≡ take (end_of xs) xs ∷ pieces (drop (end_of xs + 1) xs)
cut [] h = absurd (omega arith)
cut (x ∷ xs) h = cut_more (is_line_end x) x xs (end_of xs) h (cut xs)

-- one more byte before a line that no LF ends
whole_more : (ends : Bool) (x : ℕ) (xs : List ℕ) (p : ℕ)
    → suc (length xs) ≤ cond (not ends) (1 + p) 0
    → (length xs ≤ p → onto_first x (pieces xs) ≡ (x ∷ xs) ∷ [])
    → cond ends ([] ∷ pieces xs) (onto_first x (pieces xs)) ≡ (x ∷ xs) ∷ []
whole_more true x xs p h rest = absurd (omega arith)
whole_more false x xs p h rest = rest (omega arith)

whole : (x : ℕ) (xs : List ℕ) → length (x ∷ xs) ≤ end_of (x ∷ xs) → pieces (x ∷ xs) ≡ (x ∷ xs) ∷ []
whole x [] h = whole_more (is_line_end x) x [] 0 h (λ _. refl)
whole x (y ∷ ys) h = whole_more (is_line_end x) x (y ∷ ys) (end_of (y ∷ ys)) h (λ k. ap (onto_first x) (whole y ys k))

-- the rest of a slice, as the code cuts it
rest_of : {X : Type 0} (n : ℕ) (xs : List X) → take (length xs - n) (drop n xs) ≡ drop n xs
rest_of n xs = grind (arith, common_steps)

pub first_line : (xs : List ℕ) (end : ℕ) (found : Bool)
    → ltb (end_of xs) (length xs) ≡ found
    → cond found (Some (end_of xs)) None ≡ Some end
    → pieces xs ≡ take end xs ∷ pieces (take (length xs - (end + 1)) (drop (end + 1) xs))
first_line xs end true e is =
    let same : end_of xs ≡ end = cc in
    rw (rest_of (end + 1) xs, ← same) (cut xs (ltb-true _ _ e))
first_line xs end false e is = cc is

pub only_line : (xs : List ℕ) (found : Bool)
    → eqb (length xs) 0 ≡ false
    → ltb (end_of xs) (length xs) ≡ found
    → cond found (Some (end_of xs)) None ≡ None
    → pieces xs ≡ xs ∷ pieces (take (length xs - length xs) (drop (length xs) xs))
only_line [] found some e is = cc some
only_line (x ∷ xs) true some e is = cc is
only_line (x ∷ xs) false some e is =
    let nothing : drop (length (x ∷ xs)) (x ∷ xs) ≡ [] = grind (arith, common_steps) in
    rw (rest_of (length (x ∷ xs)) (x ∷ xs), nothing) (whole x xs (ltb-false _ _ e))
