-- Changes at a place of a list that stands at the front of a longer one.
use Rattle.std.proofs.Common.{◌≡◌, ℕ, zero, suc, ◌+◌, ◌-◌, ◌<◌, ◌≤◌, List, [], ◌∷◌, ◌++◌, length, take, drop, refl, sym, ◌∙◌, ap, arith, slice_set, append_assoc, length-take-le, length-drop, length-append, length-set}
use Rattle.std.specs.List.{insert, remove, between}
use Rattle.std.proofs.lemmas.List.{set_split, take_at, drop_at, take-take, take-set-le, take_more_set, drop-append-le, drop-drop}
use Rattle.std.proofs.lemmas.Slice.{between_is, take-put_mid}
use borrow.Rule.Slice.PartMut.{put_mid, post_of}

take-set_in : {X : Type 0} (n i : ℕ) (xs : List X) (y : X) → take n (slice_set xs i y) ≡ slice_set (take n xs) i y
take-set_in zero i xs y = refl
take-set_in (suc n) i [] y = refl
take-set_in (suc n) zero (x ∷ xs) y = refl
take-set_in (suc n) (suc i) (x ∷ xs) y = ap (λ (ys : List _). x ∷ ys) (take-set_in n i xs y)

-- an element in its place
pub take_put : {X : Type 0} (n i : ℕ) (xs : List X) (y : X) → i < n → n ≤ length xs →
    take n (slice_set xs i y) ≡ take i (take n xs) ++ y ∷ drop (suc i) (take n xs)
take_put n i xs y within fits =
    take-set_in n i xs y ∙ set_split (take n xs) i y (omega (arith, length-take-le n xs fits))

-- an element cut out
pub take_cut : {X : Type 0} (n i : ℕ) (xs ys : List X) → i < n → n ≤ length xs →
    ys ≡ drop 1 (between i n xs) ++ take 1 (between i n xs) →
    take (n - 1) (put_mid i (n - i) xs ys) ≡ remove (take n xs) i
take_cut {X} n i xs ys within fits is =
    let es : List X = take n xs in
    let old : between i n xs ≡ drop i es = between_is xs i n in
    let short : length (drop 1 (drop i es)) ≡ n - 1 - i = omega (arith, length-drop 1 (drop i es), length-drop i es, length-take-le n xs fits) in
    let front : take i xs ≡ take i es = sym (take-take i n xs (omega arith)) in
    let parts : take i xs ++ (ys ++ post_of i (n - i) xs) ≡ (take i es ++ drop 1 (drop i es)) ++ (take 1 (drop i es) ++ post_of i (n - i) xs) =
    rw (is, old, front) (simp append_assoc) in
    let long : length (take i es ++ drop 1 (drop i es)) ≡ n - 1 =
    omega (arith, length-append (take i es) (drop 1 (drop i es)), short, length-take-le i es (omega (arith, length-take-le n xs fits))) in
    let next : i + 1 ≡ suc i = omega arith in
    let rest : drop 1 (drop i es) ≡ drop (suc i) es = rw (drop-drop 1 i es) (ap (λ (k : ℕ). drop k es) next) in
    ap (take (n - 1)) parts ∙ take_at _ _ (n - 1) long ∙ ap (λ (zs : List X). take i es ++ zs) rest

-- an element put in
pub take_insert : {X : Type 0} (n i : ℕ) (xs ys : List X) (y : X) → i ≤ n → n < length xs →
    ys ≡ drop (length (between i (n + 1) (slice_set xs n y)) - 1) (between i (n + 1) (slice_set xs n y))
    ++ take (length (between i (n + 1) (slice_set xs n y)) - 1) (between i (n + 1) (slice_set xs n y)) →
    take (n + 1) (put_mid i (n + 1 - i) (slice_set xs n y) ys) ≡ insert (take n xs) i y
take_insert {X} n i xs ys y within room is =
    let es : List X = take n xs in
    let many : length es ≡ n = length-take-le n xs (omega arith) in
    let old : between i (n + 1) (slice_set xs n y) ≡ drop i es ++ y ∷ [] =
    between_is (slice_set xs n y) i (n + 1) ∙ ap (drop i) (take_more_set xs n y room) ∙ drop-append-le i es (y ∷ []) (omega arith) in
    let count : length (drop i es ++ y ∷ []) - 1 ≡ length (drop i es) = omega (arith, length-append (drop i es) (y ∷ [])) in
    let turned : ys ≡ y ∷ drop i es =
    rw (is, old, count, drop_at (drop i es) (y ∷ []) (length (drop i es)) refl, take_at (drop i es) (y ∷ []) (length (drop i es)) refl) refl in
    let long : n + 1 ≡ i + length ys = omega (arith, ap length turned, length-drop i es) in
    let front : take i (slice_set xs n y) ≡ take i es = take-set-le i xs n y within ∙ sym (take-take i n xs within) in
    take-put_mid i (n + 1 - i) (slice_set xs n y) ys (n + 1) long (omega (arith, length-set xs n y))
    ∙ ap (λ (zs : List X). zs ++ ys) front ∙ ap (λ (zs : List X). take i es ++ zs) turned
