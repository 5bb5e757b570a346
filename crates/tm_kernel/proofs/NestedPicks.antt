-- What the pick names among claims: a greatest one, and a holder's where a greatest one is a holder's.
use Rattle.std.proofs.Common.{◌≡◌, ◌≢◌, ℕ, ◌<◌, ◌≤◌, Bool, true, cond, eqb, List, [], ◌∷◌, length, map, max, refl, ap, sym, subst, ◌∙◌, arith, zero, suc, Some, None, Option, unwrap_or, slice_get, option_map, get_or, inl, inr, ◌⊎◌, ◌&&◌}
use Rattle.std.specs.List.{fold, position}
use Rattle.std.specs.List.{position_or_len}
use Rattle.std.proofs.lemmas.Bool.{cases_eq, cases_lt, eq-eqb, ne_eqb, eqb-true, lt-ltb, le-ltb, and_parts, and_from, both_ways}
use Rattle.std.proofs.lemmas.Option.{none-some, slice_get_within, slice_get-get_or, get_or_from_slice_get}
use Rattle.std.proofs.lemmas.List.Sums.{passes_at_first, fails_before_first}
use Rattle.tm_kernel.specs.State.{nobody}
use Rattle.tm_kernel.specs.declared.kernel.claim.Claim.{Claim}
use Rattle.tm_kernel.specs.Schedule.{greatest, first_holder, first_claim, pick_of}
use Rattle.tm_kernel.proofs.NestedPriorities.{above_start}

-- the first place that passes, with its element
pub record IsFound {X : Type 0} (test : X → Bool) (xs : List X) (p : ℕ) : Type 0 where
  pub element : X
  pub found : slice_get xs p ≡ Some element
  pub passes : test element ≡ true

-- a first place is found, or none passes
pub position_cases : {X : Type 0} (test : X → Bool) (xs : List X) →
    ((p : ℕ) × (position test xs ≡ Some p) × IsFound test xs p) ⊎
    ((position test xs ≡ None) × ((i : ℕ) (x : X) → slice_get xs i ≡ Some x → test x ≡ true → ⊥))
position_cases {X} test xs = elim (cases_lt (position_or_len test xs) (length xs)) [
  | inl within ↦ inl (found xs within)
  | inr past ↦ inr (
    ap (λ b. cond b (Some (position_or_len test xs)) None) (le-ltb (position_or_len test xs) (length xs) past),
    λ i x at passes. (
        let there : i < length xs = slice_get_within xs i x at in
        let fails = fails_before_first test xs i x (omega arith) in
        both_ways (test x) (ap test (sym (get_or_from_slice_get xs i x x at)) ∙ fails) passes),
  )
]
  where
    found : (ys : List X) → position_or_len test ys < length ys → (p : ℕ) × (position test ys ≡ Some p) × IsFound test ys p
    found [] within = absurd (omega arith)
    found (y ∷ ys) within = (
      position_or_len test (y ∷ ys),
      ap (λ b. cond b (Some (position_or_len test (y ∷ ys))) None) (lt-ltb (position_or_len test (y ∷ ys)) (length (y ∷ ys)) within),
      record {
        element = get_or (y ∷ ys) (position_or_len test (y ∷ ys)) y;
        found = slice_get-get_or (y ∷ ys) (position_or_len test (y ∷ ys)) y within;
        passes = passes_at_first test (y ∷ ys) y within;
      },
    )

below_greatest : (best : ℕ) (cs : List Claim) (i : ℕ) (c : Claim) → slice_get cs i ≡ Some c → c.priority ≤ fold max best (map (λ c. c.priority) cs)
below_greatest best [] i c e = absurd (none-some c e)
below_greatest best (d ∷ ds) zero c e =
    let same : d.priority ≡ c.priority = ap (λ (o : Option Claim). unwrap_or (option_map (λ (x : Claim). x.priority) o) 0) e in
    omega (arith, above_start (max best d.priority) (map (λ c. c.priority) ds))
below_greatest best (d ∷ ds) (suc i) c e = below_greatest (max best d.priority) ds i c e

-- the place of a claim above 0 that none exceeds, and that is a holder's where one of its priority is
pub record IsPicked (cs : List Claim) (p : ℕ) : Type 0 where
  pub top : Claim
  pub found : slice_get cs p ≡ Some top
  pub positive : 0 < top.priority
  pub greatest : (i : ℕ) (c : Claim) → slice_get cs i ≡ Some c → c.priority ≤ top.priority
  pub holder : (i : ℕ) (c : Claim) → slice_get cs i ≡ Some c → c.priority ≡ top.priority → c.holder ≡ true → top.holder ≡ true

picked_holder : (cs : List Claim) (p : ℕ) → 0 < greatest cs → IsFound (λ c. eqb c.priority (greatest cs) && c.holder) cs p → IsPicked cs p
picked_holder cs p some h =
    let (same, holds) = and_parts (eqb h.element.priority (greatest cs)) h.element.holder h.passes in
    let is : h.element.priority ≡ greatest cs = eqb-true h.element.priority (greatest cs) same in
    record {
      top = h.element;
      found = h.found;
      positive = omega arith;
      greatest = λ i c at. omega (arith, below_greatest 0 cs i c at);
      holder = λ _ _ _ _ _. holds;
    }

picked_claim : (cs : List Claim) (p : ℕ) → 0 < greatest cs →
    ((i : ℕ) (c : Claim) → slice_get cs i ≡ Some c → (eqb c.priority (greatest cs) && c.holder) ≡ true → ⊥) →
    IsFound (λ c. eqb c.priority (greatest cs)) cs p → IsPicked cs p
picked_claim cs p some none h =
    let is : h.element.priority ≡ greatest cs = eqb-true h.element.priority (greatest cs) h.passes in
    record {
      top = h.element;
      found = h.found;
      positive = omega arith;
      greatest = λ i c at. omega (arith, below_greatest 0 cs i c at);
      holder = λ i c at same holds.
          absurd (none i c at (and_from (eqb c.priority (greatest cs)) c.holder (eq-eqb c.priority (greatest cs) (same ∙ is)) holds));
    }

-- the pick, where there is one, is such a place
pub pick_of_is_picked : (cs : List Claim) → pick_of cs ≢ nobody → IsPicked cs (pick_of cs)
pick_of_is_picked cs ne = elim (cases_eq (greatest cs) 0) [
  | inl e ↦ absurd (ne (ap (λ b. cond b nobody (unwrap_or (first_holder (greatest cs) cs) (unwrap_or (first_claim (greatest cs) cs) nobody))) (eq-eqb (greatest cs) 0 e)))
  | inr e ↦
      let at : pick_of cs ≡ unwrap_or (first_holder (greatest cs) cs) (unwrap_or (first_claim (greatest cs) cs) nobody) =
      ap (λ b. cond b nobody (unwrap_or (first_holder (greatest cs) cs) (unwrap_or (first_claim (greatest cs) cs) nobody))) (ne_eqb (greatest cs) 0 e) in
      elim (position_cases (λ c. eqb c.priority (greatest cs) && c.holder) cs) [
        | inl (p, is, h) ↦
            subst (IsPicked cs) (sym (at ∙ ap (λ o. unwrap_or o (unwrap_or (first_claim (greatest cs) cs) nobody)) is)) (picked_holder cs p (omega arith) h)
        | inr (is, none) ↦
            let then_claim : pick_of cs ≡ unwrap_or (first_claim (greatest cs) cs) nobody =
            at ∙ ap (λ o. unwrap_or o (unwrap_or (first_claim (greatest cs) cs) nobody)) is in
            elim (position_cases (λ c. eqb c.priority (greatest cs)) cs) [
              | inl (p, was, h) ↦ subst (IsPicked cs) (sym (then_claim ∙ ap (λ o. unwrap_or o nobody) was)) (picked_claim cs p (omega arith) none h)
              | inr (was, _) ↦ absurd (ne (then_claim ∙ ap (λ o. unwrap_or o nobody) was))
            ]
      ]
]

-- some claim has the greatest priority
greatest_claimed : (best : ℕ) (cs : List Claim) → best < fold max best (map (λ c. c.priority) cs) →
    (i : ℕ) × (c : Claim) × (slice_get cs i ≡ Some c) × (c.priority ≡ fold max best (map (λ c. c.priority) cs))
greatest_claimed best [] h = absurd (omega arith)
greatest_claimed best (c ∷ cs) h = elim (cases_lt (max best c.priority) (fold max (max best c.priority) (map (λ c. c.priority) cs))) [
  | inl more ↦ (
      let (i, d, at, is) = greatest_claimed (max best c.priority) cs more in
      (suc i, d, at, is))
  | inr top ↦ (zero, c, refl, omega (arith, above_start (max best c.priority) (map (λ c. c.priority) cs)))
]

-- where some claim is above 0, the pick is a place
pub pick_of_within : (cs : List Claim) → 0 < greatest cs → pick_of cs < length cs
pick_of_within cs some =
    let at : pick_of cs ≡ unwrap_or (first_holder (greatest cs) cs) (unwrap_or (first_claim (greatest cs) cs) nobody) =
    ap (λ b. cond b nobody (unwrap_or (first_holder (greatest cs) cs) (unwrap_or (first_claim (greatest cs) cs) nobody)))
    (ne_eqb (greatest cs) 0 (λ e. omega arith)) in
    elim (position_cases (λ c. eqb c.priority (greatest cs) && c.holder) cs) [
      | inl (p, is, h) ↦ omega (arith, at ∙ ap (λ o. unwrap_or o (unwrap_or (first_claim (greatest cs) cs) nobody)) is, slice_get_within cs p h.element h.found)
      | inr (is, none) ↦
          let then_claim : pick_of cs ≡ unwrap_or (first_claim (greatest cs) cs) nobody =
          at ∙ ap (λ o. unwrap_or o (unwrap_or (first_claim (greatest cs) cs) nobody)) is in
          elim (position_cases (λ c. eqb c.priority (greatest cs)) cs) [
            | inl (p, was, h) ↦ omega (arith, then_claim ∙ ap (λ o. unwrap_or o nobody) was, slice_get_within cs p h.element h.found)
            | inr (was, never) ↦ (
                let (i, c, there, top) = greatest_claimed 0 cs some in
                absurd (never i c there (eq-eqb c.priority (greatest cs) top)))
          ]
    ]

-- no claim is above the greatest
pub claim_below_greatest : (cs : List Claim) (i : ℕ) (c : Claim) → slice_get cs i ≡ Some c → c.priority ≤ greatest cs
claim_below_greatest cs i c at = below_greatest 0 cs i c at
