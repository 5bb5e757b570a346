-- No word belongs to two rows: any two rows ask for different bits where both masks look.
use Rattle.std.proofs.Common.{◌≡◌, ℕ, zero, suc, refl, sym, ap, ◌∙◌, Bool, true, false, List, [], ◌∷◌, Some, bit_and, subst}
use Rattle.std.proofs.lemmas.Nat.{and_comm, and_assoc}
use Rattle.std.proofs.lemmas.Bool.{and_parts, both_ways, eqb-true, eq-eqb, not-true, false_from_ne_true, cond-true, cond-false}
use Rattle.std.proofs.lemmas.Option.{same_Some}
use Rattle.std.specs.Prelude.{◌==◌, ◌&&◌, not, find, slice_get}
use Rattle.std.specs.List.{list_all}
use Rattle.tm_rv.specs.declared.instr.Set.{Set}
use Rattle.tm_rv.specs.declared.instr.Set.TheVariants as set
use Rattle.tm_rv.specs.Table.{Row, rows, belongs}
use Rattle.tm_rv.specs.Laws.{NoWordInTwoRows}

-- the rows ask for one thing where both masks look
abbrev agrees : Row → Row → Bool
agrees r s = bit_and r.bits s.mask == bit_and s.bits r.mask

abbrev disagrees_with : Row → List Row → Bool
disagrees_with r rs = list_all (λ s. not (agrees r s)) rs

-- each row disagrees with those after it
abbrev all_apart : List Row → Bool
all_apart [] = true
all_apart (r ∷ rs) = disagrees_with r rs && all_apart rs

-- a word of two rows makes them agree
both_agree : (w : ℕ) (r s : Row) → belongs w r ≡ true → belongs w s ≡ true → agrees r s ≡ true
both_agree w r s in_r in_s =
    let left : bit_and w r.mask ≡ r.bits = eqb-true _ _ in_r in
    let right : bit_and w s.mask ≡ s.bits = eqb-true _ _ in_s in
    let e : bit_and (bit_and w r.mask) s.mask ≡ bit_and (bit_and w s.mask) r.mask =
    and_assoc s.mask w r.mask ∙ (ap (λ m. bit_and w m) (and_comm r.mask s.mask) ∙ sym (and_assoc r.mask w s.mask)) in
    eq-eqb _ _ (ap (λ n. bit_and n s.mask) (sym left) ∙ (e ∙ ap (λ n. bit_and n r.mask) right))

-- a word of a row is of no row that comes earlier
not_earlier : (w : ℕ) (r : Row) (rs : List Row) (k : ℕ) (s : Row) → disagrees_with r rs ≡ true → slice_get rs k ≡ Some s →
    belongs w s ≡ true → belongs w r ≡ false
not_earlier w r [] k s apart at in_s = cc
not_earlier w r (x ∷ rs) zero s apart at in_s =
    let in_x : belongs w x ≡ true = subst (λ (t : Row). belongs w t ≡ true) (sym (same_Some x s at)) in_s in
    let differ : agrees r x ≡ false = not-true _ (and_parts _ _ apart).0 in
    false_from_ne_true _ (λ in_r. both_ways (agrees r x) differ (both_agree w r x in_r in_x))
not_earlier w r (x ∷ rs) (suc k) s apart at in_s = not_earlier w r rs k s (and_parts _ _ apart).1 at in_s

-- a word of a row has that row as its first
pub first_row : (w : ℕ) (rs : List Row) (k : ℕ) (r : Row) → all_apart rs ≡ true → slice_get rs k ≡ Some r →
    belongs w r ≡ true → find (belongs w) rs ≡ Some r
first_row w [] k r apart at in_r = cc
first_row w (x ∷ rs) zero r apart at in_r =
    let in_x : belongs w x ≡ true = subst (λ (t : Row). belongs w t ≡ true) (sym (same_Some x r at)) in_r in
    cond-true _ (Some x) (find (belongs w) rs) in_x ∙ at
first_row w (x ∷ rs) (suc k) r apart at in_r =
    let parts = and_parts (disagrees_with x rs) (all_apart rs) apart in
    cond-false _ (Some x) (find (belongs w) rs) (not_earlier w x rs k r parts.0 at in_r) ∙ first_row w rs k r parts.1 at in_r

one_place : (w : ℕ) (rs : List Row) (i j : ℕ) (r s : Row) → all_apart rs ≡ true →
    slice_get rs i ≡ Some r → slice_get rs j ≡ Some s → belongs w r ≡ true → belongs w s ≡ true → i ≡ j
one_place w [] i j r s apart at_i at_j in_r in_s = cc
one_place w (x ∷ rs) zero zero r s apart at_i at_j in_r in_s = refl
one_place w (x ∷ rs) zero (suc j) r s apart at_i at_j in_r in_s =
    absurd (both_ways (belongs w x) (not_earlier w x rs j s (and_parts _ _ apart).0 at_j in_s)
    (subst (λ (t : Row). belongs w t ≡ true) (sym (same_Some x r at_i)) in_r))
one_place w (x ∷ rs) (suc i) zero r s apart at_i at_j in_r in_s =
    absurd (both_ways (belongs w x) (not_earlier w x rs i r (and_parts _ _ apart).0 at_i in_r)
    (subst (λ (t : Row). belongs w t ≡ true) (sym (same_Some x s at_j)) in_s))
one_place w (x ∷ rs) (suc i) (suc j) r s apart at_i at_j in_r in_s =
    ap suc (one_place w rs i j r s (and_parts _ _ apart).1 at_i at_j in_r in_s)

rows_apart : (s : Set) → all_apart (rows s) ≡ true
rows_apart set.Base = refl
rows_apart set.Mul = refl

pub no_word_in_two : NoWordInTwoRows
no_word_in_two s word i j r t at_i at_j in_r in_t = one_place word (rows s) i j r t (rows_apart s) at_i at_j in_r in_t
