-- A list with one item for each number below another: its length, and each item.
use Rattle.std.proofs.Common.{◌≡◌, ℕ, zero, suc, ◌<◌, ◌==◌, List, [], ◌∷◌, ◌++◌, length, refl, ap, sym, ◌∙◌, arith, length-append, Some, slice_get, inl, inr}
use Rattle.std.proofs.lemmas.Bool.{cases_Bool, eqb-true, eqb-false}
use Rattle.tm_system.specs.Telling.{below}

pub length-below : {A : Type 0} (n : ℕ) (f : ℕ → A) → length (below n f) ≡ n
length-below zero f = refl
length-below (suc n) f = length-append (below n f) (f n ∷ []) ∙ omega (arith, length-below n f)

pub below_same : {A : Type 0} (n : ℕ) (f g : ℕ → A) → ((t : ℕ) → t < n → f t ≡ g t) → below n f ≡ below n g
below_same zero f g same = refl
below_same (suc n) f g same =
    ap (λ xs. xs ++ f n ∷ []) (below_same n f g (λ t lt. same t (omega arith))) ∙ ap (λ x. below n g ++ x ∷ []) (same n (omega arith))

pub get_front : {A : Type 0} (xs : List A) (y : A) (t : ℕ) → t < length xs → slice_get (xs ++ y ∷ []) t ≡ slice_get xs t
get_front [] y t lt = absurd (omega arith)
get_front (x ∷ xs) y zero lt = refl
get_front (x ∷ xs) y (suc t) lt = get_front xs y t (omega arith)

pub get_last : {A : Type 0} (xs : List A) (y : A) → slice_get (xs ++ y ∷ []) (length xs) ≡ Some y
get_last [] y = refl
get_last (x ∷ xs) y = get_last xs y

pub slice_get-below : {A : Type 0} (n : ℕ) (f : ℕ → A) (t : ℕ) → t < n → slice_get (below n f) t ≡ Some (f t)
slice_get-below zero f t lt = absurd (omega arith)
slice_get-below (suc n) f t lt =
    elim (cases_Bool (t == n)) [
      | inl e ↦
          let is : t ≡ n = eqb-true t n e in
          ap (λ k. slice_get (below n f ++ f n ∷ []) k) (is ∙ sym (length-below n f)) ∙ get_last (below n f) (f n) ∙ ap (λ k. Some (f k)) (sym is)
      | inr e ↦
          let other : t ≡ n → ⊥ = eqb-false t n e in
          let before : t < n = omega (arith, lt, other) in
          get_front (below n f) (f n) t (rw length-below before) ∙ slice_get-below n f t before
    ]
