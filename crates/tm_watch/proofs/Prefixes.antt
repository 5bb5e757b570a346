-- Beginnings of lists.
use Rattle.std.proofs.Common.{◌≡◌, ◌⊎◌, ℕ, ◌≤◌, Bool, true, false, List, [], ◌∷◌, ◌++◌, length, All, inl, inr, refl, ap, sym, ◌∙◌, arith, append_assoc}
use Rattle.std.proofs.Math.Dec.{leb}
use Rattle.std.proofs.lemmas.Bool.{leb-true, leb-false}
use Rattle.std.proofs.lemmas.List.Elements.{All-append, All-cons, All-nil}
use Rattle.std.specs.Prelude.{MatchBool}
use mathlib.Core.List.{IsPrefix}

-- each list begins with itself
pub prefix_self : {A : Type 0} (xs : List A) → IsPrefix xs xs
prefix_self [] = ([], refl)
prefix_self (x ∷ xs) = (let rest = prefix_self xs in rest.0, ap (λ ys. x ∷ ys) (prefix_self xs).1)

-- the beginning of a beginning begins the whole
pub prefix_trans : {A : Type 0} (xs ys zs : List A) → IsPrefix xs ys → IsPrefix ys zs → IsPrefix xs zs
prefix_trans xs ys zs p q = (p.0 ++ q.0, sym (append_assoc xs p.0 q.0) ∙ (ap (λ w. w ++ q.0) p.1 ∙ q.1))

-- of two beginnings of one list the shorter begins the longer
pub prefix_shorter : {A : Type 0} (xs ys zs : List A) → IsPrefix xs zs → IsPrefix ys zs → length xs ≤ length ys → IsPrefix xs ys
prefix_shorter [] ys zs p q le = (ys, refl)
prefix_shorter (x ∷ xs) [] zs p q le = absurd (omega arith)
prefix_shorter (x ∷ xs) (y ∷ ys) [] p q le = absurd (cc (p.1))
prefix_shorter (x ∷ xs) (y ∷ ys) (z ∷ zs) p q le =
    let heads : x ≡ y = cc (p.1, q.1) in
    let rest = prefix_shorter xs ys zs (p.0, cc (p.1)) (q.0, cc (q.1)) (omega arith) in
    (rest.0, cc (heads, rest.1))

-- a beginning that is no shorter than the whole is the whole
pub prefix_whole : {A : Type 0} (xs ys : List A) → IsPrefix xs ys → length ys ≤ length xs → xs ≡ ys
prefix_whole [] [] p le = refl
prefix_whole [] (y ∷ ys) p le = absurd (omega arith)
prefix_whole (x ∷ xs) [] p le = absurd (cc (p.1))
prefix_whole (x ∷ xs) (y ∷ ys) p le =
    let rest = prefix_whole xs ys (p.0, cc (p.1)) (omega arith) in
    cc (p.1, rest)

-- of two beginnings of one list, by their lengths, the shorter begins the longer
pub begins_by : {A : Type 0} (xs ys zs : List A) (m n : ℕ) → m ≡ length xs → n ≡ length ys → IsPrefix xs zs → IsPrefix ys zs →
    (b : Bool) → leb m n ≡ b → MatchBool b (IsPrefix xs ys) (IsPrefix ys xs)
begins_by xs ys zs m n long long' p q true is = prefix_shorter xs ys zs p q (let le = leb-true m n is in omega arith)
begins_by xs ys zs m n long long' p q false is = prefix_shorter ys xs zs q p (let less = leb-false m n is in omega arith)

-- either way one begins the other
pub either_begins : {A : Type 0} (xs ys : List A) (b : Bool) → MatchBool b (IsPrefix xs ys) (IsPrefix ys xs) → IsPrefix xs ys ⊎ IsPrefix ys xs
either_begins xs ys true p = inl p
either_begins xs ys false p = inr p

-- lists that begin a beginning begin the whole
pub all_begin : {A : Type 0} (lists : List (List A)) (ys zs : List A) → IsPrefix ys zs → All (λ list. IsPrefix list ys) lists → All (λ list. IsPrefix list zs) lists
all_begin lists ys zs q all = λ k d there. prefix_trans _ ys zs (all k d there) q

-- one list more that begins the whole
pub all_with : {A : Type 0} (lists : List (List A)) (xs zs : List A) → All (λ list. IsPrefix list zs) lists → IsPrefix xs zs →
    All (λ list. IsPrefix list zs) (lists ++ xs ∷ [])
all_with lists xs zs all p =
    let Begins : List _ → Type 0 = λ list. IsPrefix list zs in
    All-append Begins lists (xs ∷ []) all (All-cons Begins xs [] p (All-nil Begins))
