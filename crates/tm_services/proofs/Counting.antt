-- How often numbers stand in a list, and how long a list is in which each stands at most once.
use Rattle.std.proofs.Common.{◌≡◌, ℕ, zero, suc, ◌+◌, ◌<◌, ◌≤◌, ◌==◌, cond, List, [], ◌∷◌, length, refl, sym, arith, inl, inr}
use Rattle.std.specs.List.{All}
use Rattle.std.proofs.lemmas.Bool.{cases_eq, eq-eqb, ne_eqb}
use Rattle.std.proofs.lemmas.List.Sums.{sum_by-cons}
use Rattle.std.proofs.lemmas.List.Elements.{All-head, All-tail}
use Rattle.tm_services.specs.Ceilings.{times_in}

times_in-cons : (r x : ℕ) (xs : List ℕ) → times_in r (x ∷ xs) ≡ cond (x == r) 1 0 + times_in r xs
times_in-cons r x xs = sum_by-cons (λ (y : ℕ). cond (y == r) 1 0) x xs

-- the first is the number, or another
pub times_same : (r x : ℕ) (xs : List ℕ) → x ≡ r → times_in r (x ∷ xs) ≡ 1 + times_in r xs
times_same r x xs e = omega (arith, times_in-cons r x xs, cond_is)
  where
    cond_is : ◌≡◌ {A = ℕ} (cond (x == r) 1 0) 1
    cond_is = rw (eq-eqb x r e) refl

pub times_other : (r x : ℕ) (xs : List ℕ) → (x ≡ r → ⊥) → times_in r (x ∷ xs) ≡ times_in r xs
times_other r x xs ne = omega (arith, times_in-cons r x xs, cond_is)
  where
    cond_is : ◌≡◌ {A = ℕ} (cond (x == r) 1 0) 0
    cond_is = rw (ne_eqb x r ne) refl

-- how often the numbers below a bound stand in a list, together
abbrev tally : ℕ → List ℕ → ℕ
tally zero xs = 0
tally (suc n) xs = tally n xs + times_in n xs

tally-nil : (n : ℕ) → tally n [] ≡ 0
tally-nil zero = refl
tally-nil (suc n) = omega (arith, tally-nil n)

tally_above : (n x : ℕ) (xs : List ℕ) → n ≤ x → tally n (x ∷ xs) ≡ tally n xs
tally_above zero x xs h = refl
tally_above (suc n) x xs h =
    omega (arith, tally_above n x xs (omega arith), times_other n x xs (λ e. omega arith))

tally_below : (n x : ℕ) (xs : List ℕ) → x < n → tally n (x ∷ xs) ≡ tally n xs + 1
tally_below zero x xs h = absurd (omega arith)
tally_below (suc n) x xs h = elim (cases_eq x n) [
  | inl e ↦ omega (arith, tally_above n x xs (omega arith), times_same n x xs e)
  | inr ne ↦ omega (arith, tally_below n x xs (omega arith), times_other n x xs ne)
]

length_tally : (n : ℕ) (xs : List ℕ) → All (λ x. x < n) xs → length xs ≡ tally n xs
length_tally n [] below = sym (tally-nil n)
length_tally n (x ∷ xs) below =
    omega (arith, length_tally n xs (All-tail (λ x. x < n) x xs below), tally_below n x xs (All-head (λ x. x < n) x xs below))

tally_once : (n : ℕ) (xs : List ℕ) → ((r : ℕ) → times_in r xs ≤ 1) → tally n xs ≤ n
tally_once zero xs once = omega arith
tally_once (suc n) xs once = omega (arith, tally_once n xs once, once n)

tally_missing : (n r : ℕ) (xs : List ℕ) → ((r : ℕ) → times_in r xs ≤ 1) → times_in r xs ≡ 0 → r < n → tally n xs < n
tally_missing zero r xs once none h = absurd (omega arith)
tally_missing (suc n) r xs once none h = elim (cases_eq r n) [
  | inl e ↦ omega (arith, tally_once n xs once, rw e at none)
  | inr ne ↦ omega (arith, tally_missing n r xs once none (omega arith), once n)
]

-- numbers below a bound, each at most once, and one of them missing
pub short_where_missing : (n r : ℕ) (xs : List ℕ) → All (λ x. x < n) xs → ((r : ℕ) → times_in r xs ≤ 1) →
    times_in r xs ≡ 0 → r < n → length xs < n
short_where_missing n r xs below once none h =
    omega (arith, length_tally n xs below, tally_missing n r xs once none h)
