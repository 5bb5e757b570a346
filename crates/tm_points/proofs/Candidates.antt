-- The points below the first candidate, which are refused.
use Rattle.std.proofs.Common.{◌≡◌, ℕ, ◌+◌, ◌-◌, ◌<◌, ◌≤◌, zero, suc, List, Bool, false, cond, [], ◌∷◌, ◌++◌, ap, sym, ◌∙◌, arith, refl}
use Rattle.std.specs.Prelude.{filter}
use Rattle.std.specs.List.{range_with_len}
use Rattle.std.proofs.lemmas.List.Elements.{filter-append}
use Rattle.rayon.specs.Numbers.{nat_range}
use Rattle.rayon.specs.NumberLaws.{nat_range-cut}

-- nothing passes of numbers that all fail
none_passes : (test : ℕ → Bool) (from many : ℕ) → ((k : ℕ) → k < from + many → test k ≡ false) →
    filter test (range_with_len from many) ≡ []
none_passes test from zero fails = refl
none_passes test from (suc many) fails =
    ap (λ b. cond b (from ∷ filter test (range_with_len (from + 1) many)) (filter test (range_with_len (from + 1) many))) (fails from (omega arith))
    ∙ none_passes test (from + 1) many (λ k below. fails k (omega arith))

-- numbers from 0 on of which the first ones fail pass as those from there on
passes_from : (test : ℕ → Bool) (first end : ℕ) → first ≤ end → ((k : ℕ) → k < first → test k ≡ false) →
    filter test (nat_range first end) ≡ filter test (range_with_len 0 end)
passes_from test first end known fails =
    let here : 0 + first ≡ first = omega arith in
    let low : first - 0 ≡ first = omega arith in
    let all : end - 0 ≡ end = omega arith in
    let cut : nat_range 0 first ++ nat_range first end ≡ nat_range 0 end =
    rw here at (nat_range-cut 0 end first (omega arith)) in
    let none : filter test (nat_range 0 first) ≡ [] =
    ap (λ n. filter test (range_with_len 0 n)) low ∙ none_passes test 0 first (λ k below. fails k (omega arith)) in
    ap (λ l. l ++ filter test (nat_range first end)) (sym none)
    ∙ sym (filter-append test (nat_range 0 first) (nat_range first end))
    ∙ ap (filter test) cut
    ∙ ap (λ n. filter test (range_with_len 0 n)) all

-- what was found among the candidates is what passes of all
pub finds_all : (test : ℕ → Bool) (first last end : ℕ) (items found : List ℕ) → found ≡ items →
    items ≡ filter test (nat_range first last) → last ≡ end → first ≤ last →
    ((k : ℕ) → k < first → test k ≡ false) → found ≡ filter test (range_with_len 0 end)
finds_all test first last end items found same is ends known fails =
    same ∙ is ∙ passes_from test first last known fails ∙ ap (λ n. filter test (range_with_len 0 n)) ends
