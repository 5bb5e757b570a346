-- The demands on a task, one after another, and the replays of tasks.
use Rattle.std.proofs.Common.{◌≡◌, ℕ, zero, suc, ◌+◌, ◌≤◌, ◌⊎◌, List, [], ◌∷◌, ◌++◌, length, refl, ap, sym, ◌∙◌, arith, inl, inr, Result, Ok, Err, append_assoc}
use Rattle.std.proofs.lemmas.Bool.{cases_lt}
use Rattle.tm_marker.specs.declared.entries.Switch.{Switch}
use Rattle.tm_system.specs.declared.diverged.Diverged.{Diverged}
use Rattle.tm_system.specs.Alone.{Alone}
use Rattle.tm_system.specs.Wanted.{Demand, wanted_by, left_wanted, resumed_wanted}
use Rattle.tm_system.specs.Tracing.{Tracing, Going, On, Off, meet, meet_by, meets}
use Rattle.tm_system.specs.Replaying.{one_more, all_below}

pub meet_on : (a : Alone) (d : Demand) (t : Tracing) → meet a d (On t) ≡ meet_by a d t d.way
unfolding meet
meet_on a d t = refl

pub meets_none : (a : Alone) (g : Going) → meets a [] g ≡ g
unfolding meets
meets_none a g = refl

pub meets_one : (a : Alone) (d : Demand) (ds : List Demand) (g : Going) → meets a (d ∷ ds) g ≡ meets a ds (meet a d g)
unfolding meets
meets_one a d ds g = refl

-- two lists of demands are met one after the other
pub meets_append : (a : Alone) (ds es : List Demand) (g : Going) → meets a (ds ++ es) g ≡ meets a es (meets a ds g)
unfolding meets
meets_append a [] es g = refl
meets_append a (d ∷ ds) es g = meets_append a ds es (meet a d g)

-- nothing is looked at after the first demand that is not met
pub meets_off : (a : Alone) (ds : List Demand) (x : Diverged) → meets a ds (Off x) ≡ Off x
unfolding meet meets
meets_off a [] x = refl
meets_off a (d ∷ ds) x = meets_off a ds x

pub wanted_none : (task seq : ℕ) → wanted_by task seq [] ≡ []
unfolding wanted_by
wanted_none task seq = refl

pub wanted_one : (task seq : ℕ) (entry : Switch) (entries : List Switch) →
    wanted_by task seq (entry ∷ entries) ≡ left_wanted task seq entry ++ (resumed_wanted task seq entry ++ wanted_by task (seq + 1) entries)
unfolding wanted_by
wanted_one task seq entry entries = refl

regroup : (a b c d : List Demand) → a ++ (b ++ (c ++ d)) ≡ (a ++ (b ++ c)) ++ d
regroup a b c d = simp append_assoc

-- what one more control entry at the end demands
pub wanted_more : (task seq : ℕ) (entries : List Switch) (entry : Switch) →
    wanted_by task seq (entries ++ entry ∷ []) ≡
    wanted_by task seq entries ++ (left_wanted task (seq + length entries) entry ++ resumed_wanted task (seq + length entries) entry)
unfolding wanted_by
wanted_more task seq [] entry =
    let here : seq + length {A = Switch} [] ≡ seq = omega arith in
    rw here (ap (λ xs. left_wanted task seq entry ++ xs) (append_none (resumed_wanted task seq entry)))
  where
    append_none : (ds : List Demand) → ds ++ [] ≡ ds
    append_none [] = refl
    append_none (d ∷ ds) = ap (λ xs. d ∷ xs) (append_none ds)
wanted_more task seq (first ∷ entries) entry =
    let later : seq + 1 + length entries ≡ seq + length (first ∷ entries) = omega arith in
    let more = wanted_more task (seq + 1) entries entry in
    ap (λ xs. left_wanted task seq first ++ (resumed_wanted task seq first ++ xs))
    (more ∙ ap (λ n. wanted_by task (seq + 1) entries ++ (left_wanted task n entry ++ resumed_wanted task n entry)) later)
    ∙ regroup (left_wanted task seq first) (resumed_wanted task seq first) (wanted_by task (seq + 1) entries)
    (left_wanted task (seq + length (first ∷ entries)) entry ++ resumed_wanted task (seq + length (first ∷ entries)) entry)

-- all values below a number, one more at a time
pub all_none : {X E : Type 0} (f : ℕ → Result X E) → all_below zero f ≡ Ok []
unfolding all_below
all_none f = refl

pub all_more : {X E : Type 0} (n : ℕ) (f : ℕ → Result X E) → all_below (n + 1) f ≡ one_more (all_below n f) (f n)
unfolding all_below
all_more n f = let next : n + 1 ≡ suc n = omega arith in ap (λ k. all_below k f) next

-- the first error stays
pub all_error : {X E : Type 0} (n m : ℕ) (f : ℕ → Result X E) (e : E) → n ≤ m → all_below n f ≡ Err e → all_below m f ≡ Err e
unfolding all_below
all_error n zero f e within is = let none : n ≡ zero = omega arith in ap (λ k. all_below k f) (sym none) ∙ is
all_error n (suc m) f e within is = elim (cases_le n m within) [
  | inl least ↦ ap (λ r. one_more r (f m)) (all_error n m f e least is)
  | inr last ↦ ap (λ k. all_below k f) (sym last) ∙ is
]
  where
    cases_le : (n m : ℕ) → n ≤ suc m → (n ≤ m) ⊎ (n ≡ suc m)
    cases_le n m within = elim (cases_lt m n) [ inl above ↦ inr (omega (arith, above, within)) | inr least ↦ inl least ]
