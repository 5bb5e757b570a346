-- Writing piece by piece.
use Rattle.std.proofs.Common.{◌≡◌, ℕ, ◌+◌, ◌<◌, ◌≤◌, List, [], ◌∷◌, ◌++◌, length, drop, refl, sym, ap, ◌∙◌, subst, arith, zero, suc}
use Rattle.std.specs.Prelude.{Vec, take, sum_by, slice_get, Some}
use Rattle.std.specs.List.{flat_map, zip}
use Rattle.std.proofs.lemmas.List.Sums.{sum_by-cons}
use Rattle.std.proofs.lemmas.List.{length-append, append_assoc, append-nil, drop_all}
use Rattle.std.proofs.lemmas.Option.{slice_get_within}
use Rattle.tm_dump.specs.Room.{Gains, Lacks, HasRoom}

module _ {Z : Type 0} where
  pub nothing_lacks : (v : Vec ℕ Z) (bytes : List ℕ) → Lacks v v bytes bytes
  nothing_lacks v bytes = record { items = refl; len = refl; capacity = omega arith }

  pub lacks_less : (old now new : Vec ℕ Z) (bytes piece rest : List ℕ) →
      Lacks old now bytes (piece ++ rest) → Gains now new piece → Lacks old new bytes rest
  lacks_less old now new bytes piece rest l g = record {
    items = ap (λ xs. xs ++ rest) g.items ∙ append_assoc now.items piece rest ∙ l.items;
    len = omega (arith, l.len, g.len, length-append piece rest);
    capacity = omega (arith, l.capacity, g.capacity);
  }

  pub gains_all : (old now : Vec ℕ Z) (bytes : List ℕ) → Lacks old now bytes [] → Gains old now bytes
  gains_all old now bytes l = record {
    items = sym (append-nil now.items) ∙ l.items;
    len = omega (arith, l.len);
    capacity = l.capacity;
  }

  -- what is written next has room where all of it had
  pub room_next : (old now : Vec ℕ Z) (bytes piece rest : List ℕ) →
      Lacks old now bytes (piece ++ rest) → HasRoom old (length bytes) → HasRoom now (length piece)
  room_next old now bytes piece rest l room =
      omega (arith, l.len, l.capacity, length-append piece rest)

-- from the item of an index on
pub drop_next : {X : Type 0} (xs : List X) (i : ℕ) (x : X) → slice_get xs i ≡ Some x → drop i xs ≡ x ∷ drop (i + 1) xs
drop_next [] i x there = absurd (omega (arith, slice_get_within [] i x there))
drop_next (y ∷ xs) zero x there = cc
drop_next (y ∷ xs) (suc i) x there =
    let e : suc i + 1 ≡ suc (i + 1) = omega arith in
    rw e (drop_next xs i x there)

-- below the length there is an item
pub there_is : {X : Type 0} (xs : List X) (i : ℕ) → i < length xs → (x : X) × (slice_get xs i ≡ Some x)
there_is [] i below = absurd (omega arith)
there_is (x ∷ xs) zero below = (x, refl)
there_is (x ∷ xs) (suc i) below = there_is xs i (omega arith)

-- the pair at an index
pub slice_get-zip : {K X : Type 0} (ks : List K) (xs : List X) (i : ℕ) (k : K) (x : X) →
    slice_get ks i ≡ Some k → slice_get xs i ≡ Some x → slice_get (zip ks xs) i ≡ Some (k, x)
slice_get-zip [] xs i k x there other = absurd (omega (arith, slice_get_within [] i k there))
slice_get-zip (l ∷ ks) [] i k x there other = absurd (omega (arith, slice_get_within [] i x other))
slice_get-zip (l ∷ ks) (y ∷ xs) zero k x there other = cc
slice_get-zip (l ∷ ks) (y ∷ xs) (suc i) k x there other = slice_get-zip ks xs i k x there other

-- a sum from an index on, and up to one
pub sum_next : {X : Type 0} (f : X → ℕ) (xs : List X) (i : ℕ) (x : X) → slice_get xs i ≡ Some x →
    sum_by f (drop i xs) ≡ f x + sum_by f (drop (i + 1) xs)
sum_next f xs i x there = ap (sum_by f) (drop_next xs i x there) ∙ sum_by-cons f x (drop (i + 1) xs)

pub sum_taken : {X : Type 0} (f : X → ℕ) (xs : List X) (i : ℕ) (x : X) → slice_get xs i ≡ Some x →
    sum_by f (take (i + 1) xs) ≡ sum_by f (take i xs) + f x
sum_taken f [] i x there = absurd (omega (arith, slice_get_within [] i x there))
sum_taken f (y ∷ xs) zero x there = cc
sum_taken f (y ∷ xs) (suc i) x there =
    let e : suc i + 1 ≡ suc (i + 1) = omega arith in
    rw e (omega (arith, sum_by-cons f y (take (i + 1) xs), sum_by-cons f y (take i xs), sum_taken f xs i x there))

module _ {X : Type 0} {Z : Type 0} where
  -- the spelling of the item of an index is written
  pub lacks_next : (f : X → List ℕ) (xs : List X) (i : ℕ) (x : X) (old now new : Vec ℕ Z) (bytes : List ℕ) →
      slice_get xs i ≡ Some x → Lacks old now bytes (flat_map f (drop i xs)) → Gains now new (f x) →
      Lacks old new bytes (flat_map f (drop (i + 1) xs))
  lacks_next f xs i x old now new bytes there l g =
      lacks_less old now new bytes (f x) (flat_map f (drop (i + 1) xs))
      (subst (λ ys. Lacks old now bytes (flat_map f ys)) (drop_next xs i x there) l) g

  -- the spellings of all items are written
  pub gains_end : (f : X → List ℕ) (xs : List X) (n : ℕ) (old now : Vec ℕ Z) → length xs ≤ n →
      Lacks old now (flat_map f xs) (flat_map f (drop n xs)) → Gains old now (flat_map f xs)
  gains_end f xs n old now past l =
      gains_all old now (flat_map f xs)
      (subst (λ ys. Lacks old now (flat_map f xs) (flat_map f ys)) (drop_all n xs past) l)
