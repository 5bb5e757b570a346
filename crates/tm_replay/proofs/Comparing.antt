-- Outputs compared one after another from the front are those compared as far as both lists go.
use Rattle.std.proofs.Common.{◌≡◌, ℕ, suc, ◌+◌, ◌-◌, ◌<◌, ◌≤◌, List, [], ◌∷◌, ◌++◌, length, drop, refl, ap, sym, ◌∙◌, arith, inl, inr, Option, Some, None, slice_get, get_or}
use Rattle.std.specs.Option.{option_or}
use Rattle.std.proofs.lemmas.Bool.{cases_Bool, cases_lt, le-leb, lt-leb, lt-ltb, le-ltb}
use Rattle.std.proofs.Math.Seq.{drop-nil}
use Rattle.std.proofs.lemmas.List.{drop_more}
use Rattle.std.proofs.lemmas.Option.{slice_get-get_or}
use Rattle.tm_ring.specs.Buffer.{keep_last}
use Rattle.tm_marker.specs.declared.entries.OutputEntry.{OutputEntry}
use Rattle.tm_ring.specs.Kept.{Kept, first_of}
use Rattle.tm_system.specs.Replaying.{Shown, output_eq, first_other, other_output}
use Rattle.tm_replay.specs.Comparing.{logged_at, other_by, others_from}

pub others_none : (logged : Kept OutputEntry) (left : ℕ) → others_from logged left [] ≡ None
unfolding others_from
others_none logged left = refl

pub others_one : (logged : Kept OutputEntry) (left : ℕ) (made : Shown) (rest : List Shown) →
    others_from logged left (made ∷ rest) ≡ option_or (other_by made (logged_at logged left)) (others_from logged (left - 1) rest)
unfolding others_from
others_one logged left made rest = refl

or_assoc : {X : Type 0} (a b c : Option X) → option_or (option_or a b) c ≡ option_or a (option_or b c)
or_assoc None b c = refl
or_assoc (Some x) b c = refl

-- one list after another
pub others_more : (logged : Kept OutputEntry) (left : ℕ) (made rest : List Shown) →
    others_from logged left (made ++ rest) ≡ option_or (others_from logged left made) (others_from logged (left - length made) rest)
others_more logged left [] rest =
    ap (λ n. others_from logged n rest) (let e : left ≡ left - 0 = omega arith in e)
    ∙ sym (ap (λ o. option_or o (others_from logged (left - 0) rest)) (others_none logged left))
others_more logged left (m ∷ made) rest =
    others_one logged left m (made ++ rest)
    ∙ ap (option_or (other_by m (logged_at logged left))) (others_more logged (left - 1) made rest)
    ∙ sym (or_assoc (other_by m (logged_at logged left)) (others_from logged (left - 1) made) (others_from logged (left - 1 - length made) rest))
    ∙ ap (λ o. option_or o (others_from logged (left - 1 - length made) rest)) (sym (others_one logged left m made))
    ∙ ap (λ n. option_or (others_from logged left (m ∷ made)) (others_from logged n rest))
    (let e : left - 1 - length made ≡ left - suc (length made) = omega arith in e)

-- the logged output so many from the end, by its place
logged_before : (logged : Kept OutputEntry) (left : ℕ) → length logged.items ≤ logged.total → length logged.items < left → logged_at logged left ≡ None
logged_before logged left among past = elim (cases_lt logged.total left) [
  | inl none ↦ rw (lt-leb left logged.total none) refl
  | inr some ↦
      rw (le-leb left logged.total some) (rw (lt-ltb (logged.total - left) (first_of logged) (omega (arith, among, past, some))) refl)
]

logged_there : (logged : Kept OutputEntry) (left : ℕ) → length logged.items ≤ logged.total → left ≤ length logged.items →
    logged_at logged left ≡ slice_get logged.items (length logged.items - left)
logged_there logged left among within =
    let some : left ≤ logged.total = omega (arith, among, within) in
    let kept : first_of logged ≤ logged.total - left = omega (arith, among, within) in
    let place : logged.total - left - first_of logged ≡ length logged.items - left = omega (arith, among, within) in
    rw (le-leb left logged.total some) (rw (le-ltb (logged.total - left) (first_of logged) kept) (ap (slice_get logged.items) place))

first_one : (made : Shown) (rest : List Shown) (x : OutputEntry) (xs : List OutputEntry) →
    first_other (made ∷ rest) (x ∷ xs) ≡ option_or (other_by made (Some x)) (first_other rest xs)
unfolding first_other
first_one made rest x xs = elim (cases_Bool (output_eq x made.output)) [
  | inl e ↦ rw e refl
  | inr e ↦ rw e refl
]

first_none : (logged : List OutputEntry) → first_other [] logged ≡ None
unfolding first_other
first_none logged = refl

-- an output that is further from the end than what is kept is passed over
before : (logged : Kept OutputEntry) (m : Shown) (made : List Shown) → length logged.items ≤ logged.total → length logged.items < suc (length made) →
    option_or (other_by m (logged_at logged (suc (length made)))) (other_output made logged.items) ≡ other_output (m ∷ made) logged.items
before logged m made among past =
    let all : ℕ = length logged.items in
    let skips : suc (length made) - all ≡ suc (length made - all) = omega (arith, past) in
    let whole : all - length made ≡ 0 = omega (arith, past) in
    let more : all - suc (length made) ≡ 0 = omega (arith, past) in
    ap (λ o. option_or (other_by m o) (other_output made logged.items)) (logged_before logged (suc (length made)) among past)
    ∙ ap (λ n. first_other (drop (length made - all) made) (drop n logged.items)) (whole ∙ sym more)
    ∙ ap (λ n. first_other (drop n (m ∷ made)) (drop (all - suc (length made)) logged.items)) (sym skips)

-- the others are compared with their logged ones
inside : (logged : Kept OutputEntry) (m : Shown) (made : List Shown) → length logged.items ≤ logged.total → suc (length made) ≤ length logged.items →
    option_or (other_by m (logged_at logged (suc (length made)))) (other_output made logged.items) ≡ other_output (m ∷ made) logged.items
inside logged m made among within =
    let all : ℕ = length logged.items in
    let place : ℕ = all - suc (length made) in
    let next : place + 1 ≡ all - length made = omega (arith, within) in
    let none : length made - all ≡ 0 = omega (arith, within) in
    let no : suc (length made) - all ≡ 0 = omega (arith, within) in
    let x : OutputEntry = get_or logged.items place m.output in
    let there : place < all = omega (arith, within) in
    let rest : drop place logged.items ≡ x ∷ drop (all - length made) logged.items =
    drop_more logged.items place m.output there ∙ ap (λ n. x ∷ drop n logged.items) next in
    ap (λ o. option_or (other_by m o) (other_output made logged.items))
    (logged_there logged (suc (length made)) among within ∙ slice_get-get_or logged.items place m.output there)
    ∙ ap (λ n. option_or (other_by m (Some x)) (first_other (drop n made) (drop (all - length made) logged.items))) none
    ∙ sym (first_one m made x (drop (all - length made) logged.items))
    ∙ ap (first_other (m ∷ made)) (sym rest)
    ∙ ap (λ n. first_other (drop n (m ∷ made)) (drop place logged.items)) (sym no)

-- as far as both go, the oldest first
pub compared : (logged : Kept OutputEntry) (made : List Shown) → length logged.items ≤ logged.total →
    others_from logged (length made) made ≡ other_output made logged.items
compared logged [] among =
    others_none logged 0
    ∙ sym (ap (λ l. first_other l (keep_last 0 logged.items)) (drop-nil (0 - length logged.items)) ∙ first_none (keep_last 0 logged.items))
compared logged (m ∷ made) among =
    let all : ℕ = length logged.items in
    let left : ℕ = suc (length made) in
    let one : left - 1 ≡ length made = omega arith in
    others_one logged left m made
    ∙ ap (λ n. option_or (other_by m (logged_at logged left)) (others_from logged n made)) one
    ∙ ap (option_or (other_by m (logged_at logged left))) (compared logged made among)
    ∙ elim (cases_lt all left) [
      | inl past ↦ before logged m made among past
      | inr within ↦ inside logged m made among within
    ]
