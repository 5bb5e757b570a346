-- The exchange that adds a slice to the list keeps the rule of the book.
use Rattle.std.proofs.Common.{◌≡◌, ℕ, ◌+◌, ◌<◌, ◌==◌, Bool, true, false, List, [], ◌∷◌, ◌++◌, length, refl, ap, sym, subst, arith, inl, length-append, None}
use Rattle.std.proofs.lemmas.List.{append-nil}
use Rattle.std.proofs.lemmas.Bool.Decides.{nat_tests}
use mathlib.Core.List.{IsPrefix}
use prog.Atomic.{either}
use Rattle.logbook.specs.Pages.{Cell, cell, keeps, no_nib, step, Moves, Goes}
use Rattle.tm_marker.specs.declared.entries.Slice.{Slice}
use Rattle.tm_watch.specs.History.{IsKept, Adds}
use Rattle.tm_watch.proofs.Prefixes.{prefix_whole}

-- what the rule shows of a list, and how an update moves it
abbrev pub shown : List Slice → List Slice
shown list = []

abbrev pub moved : List Slice → List Slice → ℕ → Type 0
moved before after answer = Unit {0}

adds_goes : (list seen : List Slice) (slice : Slice) (old : ℕ) → length seen ≡ old → IsPrefix seen list → (b : Bool) → (length list == old) ≡ b →
    Goes IsKept shown moved 0 (seen, (no_nib, None)) (λ n. either (n == old) (old + 1) n) (Adds (step 0 old (old + 1) slice) (seen, (no_nib, None)))
    ((length list, true) ∷ []) list
adds_goes list seen slice old long begins true is =
    let here : length list ≡ old = grind (arith, nat_tests) in
    let same : seen ≡ list = prefix_whole seen list begins (omega arith) in
    let n : either (length list == old) (old + 1) (length list) ≡ length (list ++ slice ∷ []) = rw is (omega (arith, length-append list (slice ∷ []))) in (
      keeps,
      slice ∷ [],
      None,
      tt,
      ap (λ (k : ℕ). (k, true) ∷ []) n,
      inl (refl, refl),
      rw is (ap (λ w. w ++ slice ∷ []) (sym same)),
    )
adds_goes list seen slice old long begins false is =
    let all : list ++ [] ≡ list = append-nil list in
    let n : either (length list == old) (old + 1) (length list) ≡ length (list ++ []) = rw is (ap length (sym all)) in (
      keeps,
      [],
      None,
      tt,
      ap (λ (k : ℕ). (k, true) ∷ []) n,
      inl (refl, refl),
      rw is (ap length all),
    )

-- whatever the book is, the exchange adds the slice to the list that was seen, or finds another length
pub adds_moves : (seen : List Slice) (slice : Slice) (old : ℕ) → length seen ≡ old →
    Moves IsKept shown moved 0 (seen, (no_nib, None)) (λ n. either (n == old) (old + 1) n) (Adds (step 0 old (old + 1) slice) (seen, (no_nib, None)))
adds_moves seen slice old long cells list kept begins away =
    let Can : List Cell → Type 0 = λ c. (0 < length c) × ((cell c 0).1 ≡ true)
    × Goes IsKept shown moved 0 (seen, (no_nib, None)) (λ n. either (n == old) (old + 1) n) (Adds (step 0 old (old + 1) slice) (seen, (no_nib, None))) c list in
    subst Can (sym kept) (omega arith, refl, adds_goes list seen slice old long begins (length list == old) refl)
