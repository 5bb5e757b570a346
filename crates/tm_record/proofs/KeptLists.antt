-- The last items of a list, and of the control entries.
use Rattle.std.proofs.Common.{◌≡◌, ℕ, zero, suc, ◌-◌, ◌<◌, ◌^◌, min, List, [], ◌∷◌, ◌++◌, length, drop, All, refl, ap, sym, ◌∙◌, subst, arith, length-drop}
use Rattle.std.proofs.lemmas.List.Elements.{All-drop}
use Rattle.tm_marker.specs.declared.entries.Switch.{Switch}
use Rattle.tm_ring.specs.Kept.{Kept, Holds}
use Rattle.tm_check.specs.Checkpoint.{Checkpoint, KeptChecks, HoldsChecks}
use Rattle.tm_log.specs.WellFormed.{IsFilled, AreChained, runs_last, ended_last, ended_by}

-- the last items of a list, at most so many
abbrev last_of : {X : Type 0} → ℕ → List X → List X
last_of cap xs = drop (length xs - cap) xs

-- how many of the last items there are
last_of-length : {X : Type 0} (cap : ℕ) (xs : List X) → length (last_of cap xs) ≡ min (length xs) cap
last_of-length cap xs =
    let long : length (last_of cap xs) ≡ length xs - (length xs - cap) = length-drop (length xs - cap) xs in
    omega (arith, long)

-- a ring that holds the last items of a list is filled
pub holds_filled : {X : Type 0} (ring : Kept X) (all : List X) → Holds ring all → length all < 2 ^ 53 →
    IsFilled (length ring.items) ring.total ring.cap
holds_filled ring all h few = record {
  kept = ap length h.items ∙ last_of-length ring.cap all ∙ ap (λ n. min n ring.cap) (sym h.total);
  counted = omega (arith, h.total, few);
}

pub checks_filled : (checks : KeptChecks) (all : List Checkpoint) → HoldsChecks checks all → length all < 2 ^ 53 →
    IsFilled (length checks.items) checks.total checks.cap
checks_filled checks all h few = record {
  kept = ap length h.items ∙ last_of-length checks.cap all ∙ ap (λ n. min n checks.cap) (sym h.total);
  counted = omega (arith, h.total, few);
}

-- what holds of all items holds of the last ones
pub holds_all : {X : Type 0} (P : X → Type 0) (ring : Kept X) (all : List X) → Holds ring all → All P all → All P ring.items
holds_all P ring all h each = subst (All P) (sym h.items) (All-drop P (length all - ring.cap) all each)

pub checks_all : (P : Checkpoint → Type 0) (checks : KeptChecks) (all : List Checkpoint) → HoldsChecks checks all → All P all → All P checks.items
checks_all P checks all h each = subst (All P) (sym h.items) (All-drop P (length all - checks.cap) all each)

-- one more control entry
pub chained_more : (xs : List Switch) (x : Switch) → AreChained xs → x.from ≡ runs_last xs → ended_last xs ≡ 0 → AreChained (xs ++ x ∷ [])
chained_more [] x c from goes = tt
chained_more (a ∷ []) x c from goes = (record { from = from; goes_on = goes }, tt)
chained_more (a ∷ b ∷ rest) x c from goes = (c.0, chained_more (b ∷ rest) x c.1 from goes)

pub runs_more : (xs : List Switch) (x : Switch) → runs_last (xs ++ x ∷ []) ≡ x.to
runs_more [] x = refl
runs_more (a ∷ []) x = refl
runs_more (a ∷ b ∷ rest) x = runs_more (b ∷ rest) x

pub ended_more : (xs : List Switch) (x : Switch) → ended_last (xs ++ x ∷ []) ≡ ended_by x.kind
ended_more [] x = refl
ended_more (a ∷ []) x = refl
ended_more (a ∷ b ∷ rest) x = ended_more (b ∷ rest) x

-- without the first entries
chained_drop : (n : ℕ) (xs : List Switch) → AreChained xs → AreChained (drop n xs)
chained_drop zero xs c = c
chained_drop (suc n) [] c = tt
chained_drop (suc zero) (a ∷ []) c = tt
chained_drop (suc (suc n)) (a ∷ []) c = tt
chained_drop (suc n) (a ∷ b ∷ rest) c = chained_drop n (b ∷ rest) c.1

runs_drop : (n : ℕ) (xs : List Switch) → n < length xs → runs_last (drop n xs) ≡ runs_last xs
runs_drop zero xs more = refl
runs_drop (suc n) [] more = absurd (omega (arith, more))
runs_drop (suc n) (a ∷ []) more = absurd (omega (arith, more))
runs_drop (suc n) (a ∷ b ∷ rest) more = runs_drop n (b ∷ rest) (omega (arith, more))

ended_drop : (n : ℕ) (xs : List Switch) → n < length xs → ended_last (drop n xs) ≡ ended_last xs
ended_drop zero xs more = refl
ended_drop (suc n) [] more = absurd (omega (arith, more))
ended_drop (suc n) (a ∷ []) more = absurd (omega (arith, more))
ended_drop (suc n) (a ∷ b ∷ rest) more = ended_drop n (b ∷ rest) (omega (arith, more))

-- the last entries
pub chained_kept : (cap : ℕ) (xs : List Switch) → AreChained xs → AreChained (last_of cap xs)
chained_kept cap xs c = chained_drop (length xs - cap) xs c

pub runs_kept : (cap : ℕ) (xs : List Switch) → 0 < cap → runs_last (last_of cap xs) ≡ runs_last xs
runs_kept cap [] some = ap (λ n. runs_last (drop n [])) (let none : 0 - cap ≡ 0 = omega arith in none)
runs_kept cap (x ∷ xs) some = runs_drop (length (x ∷ xs) - cap) (x ∷ xs) (omega (arith, some))

pub ended_kept : (cap : ℕ) (xs : List Switch) → 0 < cap → ended_last (last_of cap xs) ≡ ended_last xs
ended_kept cap [] some = ap (λ n. ended_last (drop n [])) (let none : 0 - cap ≡ 0 = omega arith in none)
ended_kept cap (x ∷ xs) some = ended_drop (length (x ∷ xs) - cap) (x ∷ xs) (omega (arith, some))
