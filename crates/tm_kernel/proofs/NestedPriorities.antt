-- Static and current priorities, ceilings, and what a task's own gains and releases leave of them.
use Rattle.std.proofs.Common.{◌≡◌, ◌≢◌, ℕ, ◌+◌, ◌<◌, ◌≤◌, Bool, true, false, cond, ltb, List, [], ◌∷◌, length, map, max, take, set, get_or, refl, ap, subst, arith, zero, suc, Contains, slice_index}
use Rattle.std.specs.List.{fold}
use Rattle.std.proofs.lemmas.Bool.{lt-ltb, ltb-true, ltb-false}
use Rattle.std.proofs.lemmas.List.{get_or-set_other}
use Rattle.tm_services.specs.Ceilings.{CeilingsView, ceiling, current, holds, held_by, is_user, user_priorities}

-- a greatest number is no less than the one that it began with
pub above_start : (best : ℕ) (xs : List ℕ) → best ≤ fold max best xs
above_start best [] = omega arith
above_start best (x ∷ xs) = omega (arith, above_start (max best x) xs)

-- a task's static priority is no greater than its current one
pub static_below_current : (c : CeilingsView) (task : ℕ) → slice_index c.priorities task ≤ current c task
static_below_current c task = above_start (slice_index c.priorities task) (map (ceiling c) (held_by c task))

mapped_below : (f : ℕ → ℕ) (best : ℕ) (xs : List ℕ) (i x : ℕ) → i < length xs → get_or xs i x ≡ x → f x ≤ fold max best (map f xs)
mapped_below f best [] i x h e = absurd (omega arith)
mapped_below f best (y ∷ ys) zero x h e =
    let here : f y ≡ f x = ap f e in
    omega (arith, above_start (max best (f y)) (map f ys))
mapped_below f best (y ∷ ys) (suc i) x h e = mapped_below f (max best (f y)) ys i x (omega arith) e

-- a holder's current priority is no less than the ceiling of what it holds
pub ceiling_below_current : (c : CeilingsView) (task res : ℕ) → Contains (held_by c task) res → ceiling c res ≤ current c task
ceiling_below_current c task res (i, within, is) =
    mapped_below (ceiling c) (slice_index c.priorities task) (held_by c task) i res within is

user_below : (mask first i best : ℕ) (ps : List ℕ) → is_user mask (first + i) ≡ true →
    get_or ps i 0 ≤ fold max best (user_priorities mask first ps)
user_below mask first i best [] h = omega arith
user_below mask first zero best (p ∷ ps) h =
    let here : is_user mask first ≡ true = subst (λ (n : ℕ). is_user mask n ≡ true) (omega arith) h in
    rw here (omega (arith, above_start (max best p) (user_priorities mask (first + 1) ps)))
user_below mask first (suc i) best (p ∷ ps) h =
    let there : is_user mask (first + 1 + i) ≡ true = subst (λ (n : ℕ). is_user mask n ≡ true) (omega arith) h in
    go (is_user mask first) (user_below mask (first + 1) i (max best p) ps there) (user_below mask (first + 1) i best ps there)
  where
    go : (b : Bool) → get_or ps i 0 ≤ fold max (max best p) (user_priorities mask (first + 1) ps) →
        get_or ps i 0 ≤ fold max best (user_priorities mask (first + 1) ps) →
        get_or ps i 0 ≤ fold max best (cond b (p ∷ user_priorities mask (first + 1) ps) (user_priorities mask (first + 1) ps))
    go true kept dropped = kept
    go false kept dropped = dropped

-- a declared user's static priority is no greater than the ceiling
pub user_below_ceiling : (c : CeilingsView) (task res : ℕ) → is_user (slice_index c.users res) task ≡ true →
    slice_index c.priorities task ≤ ceiling c res
user_below_ceiling c task res h =
    user_below (slice_index c.users res) 0 task 0 c.priorities (subst (λ (n : ℕ). is_user (slice_index c.users res) n ≡ true) (omega arith) h)

none_raises : (f : ℕ → ℕ) (best : ℕ) (xs : List ℕ) → ltb 0 (length xs) ≡ false → fold max best (map f xs) ≡ best
none_raises f best [] h = refl
none_raises f best (x ∷ xs) h = absurd (omega (arith, ltb-false 0 (length (x ∷ xs)) h))

-- a task that holds nothing has its static priority
pub current_of_free : (c : CeilingsView) (task : ℕ) → holds c task ≡ false → current c task ≡ slice_index c.priorities task
current_of_free c task h = none_raises (ceiling c) (slice_index c.priorities task) (held_by c task) h

-- a task in whose list a resource stands holds one
pub holds_of_contains : (c : CeilingsView) (task res : ℕ) → Contains (held_by c task) res → holds c task ≡ true
holds_of_contains c task res (i, within, is) = lt-ltb 0 (length (held_by c task)) (omega arith)

-- the ceilings with another list of what one task holds
abbrev pub with_held : CeilingsView → ℕ → List ℕ → CeilingsView
with_held c task xs = record c { held = set c.held task xs }

-- the lists of the other tasks stay
pub held_by_other : (c : CeilingsView) (task other : ℕ) (xs : List ℕ) → other ≢ task → held_by (with_held c task xs) other ≡ held_by c other
held_by_other c task other xs ne = get_or-set_other c.held task other xs [] ne

-- so do their current priorities
pub current_of_other : (c : CeilingsView) (task other : ℕ) (xs : List ℕ) → other ≢ task → current (with_held c task xs) other ≡ current c other
current_of_other c task other xs ne =
    ap (λ ys. fold max (slice_index c.priorities other) (map (ceiling c) ys)) (held_by_other c task other xs ne)

-- and whether they hold a resource
pub holds_of_other : (c : CeilingsView) (task other : ℕ) (xs : List ℕ) → other ≢ task → holds (with_held c task xs) other ≡ holds c other
holds_of_other c task other xs ne = ap (λ (ys : List ℕ). ltb 0 (length ys)) (held_by_other c task other xs ne)

taken_below : (f : ℕ → ℕ) (best n : ℕ) (xs : List ℕ) → fold max best (map f (take n xs)) ≤ fold max best (map f xs)
taken_below f best zero xs = above_start best (map f xs)
taken_below f best (suc n) [] = omega arith
taken_below f best (suc n) (x ∷ xs) = taken_below f (max best (f x)) n xs

taken_some : (n : ℕ) (xs : List ℕ) → ltb 0 (length (take n xs)) ≡ true → ltb 0 (length xs) ≡ true
taken_some zero xs h = absurd (omega (arith, ltb-true 0 0 h))
taken_some (suc n) [] h = h
taken_some (suc n) (x ∷ xs) h = lt-ltb 0 (length (x ∷ xs)) (omega arith)

-- the list of a task after it was put: that list, or none where there is no such task
put_cases : (held : List (List ℕ)) (task : ℕ) (xs : List ℕ) (P : List ℕ → Type 0) → P xs → P [] → P (get_or (set held task xs) task [])
put_cases [] task xs P put none = none
put_cases (h ∷ hs) zero xs P put none = put
put_cases (h ∷ hs) (suc task) xs P put none = put_cases hs task xs P put none

-- a task that gives back the last of what it holds has no greater priority after it
pub current_of_shorter : (c : CeilingsView) (task n : ℕ) → current (with_held c task (take n (held_by c task))) task ≤ current c task
current_of_shorter c task n =
    put_cases c.held task (take n (held_by c task))
    (λ ys. fold max (slice_index c.priorities task) (map (ceiling c) ys) ≤ current c task)
    (taken_below (ceiling c) (slice_index c.priorities task) n (held_by c task))
    (static_below_current c task)

-- and held a resource before where it holds one still
pub holds_of_shorter : (c : CeilingsView) (task n : ℕ) → holds (with_held c task (take n (held_by c task))) task ≡ true → holds c task ≡ true
holds_of_shorter c task n =
    put_cases c.held task (take n (held_by c task))
    (λ ys. ltb 0 (length ys) ≡ true → holds c task ≡ true)
    (taken_some n (held_by c task))
    (λ h. absurd (omega (arith, ltb-true 0 0 h)))
