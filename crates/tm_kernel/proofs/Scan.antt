-- One pass over the claims that keeps the greatest so far and its place.
use Rattle.std.proofs.Common.{◌≡◌, ℕ, ◌+◌, ◌<◌, ◌≤◌, not, cond, eqb, ltb, nat_lt, ◌==◌, ◌&&◌, ◌||◌, Bool, true, false, List, [], ◌∷◌, length, map, max, suc, if◌then◌else◌, refl, subst, ap, sym, ◌∙◌, arith, Some, None, ◌⊎◌, inl, inr, drop, get_or, unwrap_or}
use Rattle.std.specs.List.{fold, prefix_len}
use Rattle.std.proofs.lemmas.Bool.Decides.{nat_tests}
use Rattle.std.proofs.lemmas.List.{drop_all, drop_more}
use Rattle.tm_services.specs.Ceilings.{CeilingsView}
use Rattle.tm_kernel.specs.declared.kernel.claim.Claim.{Claim}
use Rattle.tm_kernel.specs.declared.kernel.TaskState.{TaskState}
use Rattle.tm_kernel.specs.Schedule.{claim, claims_from, greatest, pick_of}

pub fold_max_above : (best : ℕ) (xs : List ℕ) → best ≤ fold max best xs
fold_max_above best [] = omega arith
fold_max_above best (x ∷ xs) = omega (arith, fold_max_above (max best x) xs)

-- some claim has the greatest priority, where that is above another
pub claim_within : (best m : ℕ) (cs : List Claim) → m ≡ fold max best (map (λ (c : Claim). c.priority) cs) → best < m →
    prefix_len (λ (c : Claim). not (eqb c.priority m)) cs < length cs
claim_within best m [] e h = absurd (omega arith)
claim_within best m (c ∷ cs) e h =
    let above : max best c.priority ≤ fold max (max best c.priority) (map (λ (c : Claim). c.priority) cs) =
    fold_max_above (max best c.priority) (map (λ (c : Claim). c.priority) cs) in
    let step : max best c.priority < m → prefix_len (λ (c : Claim). not (eqb c.priority m)) cs < length cs =
    claim_within (max best c.priority) m cs e in
    grind (arith, nat_tests)

-- whether a claim goes before one that was made earlier
abbrev pub beats : Claim → Claim → Bool
beats c best = nat_lt best.priority c.priority || (c.priority == best.priority && c.holder && not best.holder)

-- what the rest of the pass picks, where `best` stands at `picked`
unfoldable pub scanned : Claim → ℕ → ℕ → List Claim → ℕ
scanned best picked i [] = picked
scanned best picked i (c ∷ cs) = cond (beats c best) (scanned c i (i + 1) cs) (scanned best picked (i + 1) cs)

-- the place that a pass from `best` on tells, by the greatest priority and the first places of it, a
-- holder's and any
abbrev told : ℕ → Bool → ℕ → ℕ → ℕ → ℕ → ℕ → ℕ → ℕ
told priority holder picked i m h q n =
    cond (eqb m priority) (cond holder picked (cond (ltb h n) (i + h) picked)) (cond (ltb h n) (i + h) (i + q))

-- one claim more
told_step : (cp bp m i picked h q n : ℕ) (ch bh : Bool) (up on : ℕ) → bp ≤ m → cp ≤ m →
    (bp ≤ cp → up ≡ told cp ch i (i + 1) m h q n) → (cp ≤ bp → on ≡ told bp bh picked (i + 1) m h q n) →
    cond (ltb bp cp || (eqb cp bp && ch && not bh)) up on ≡
    told bp bh picked i m (cond (not (eqb cp m && ch)) (1 + h) 0) (cond (not (eqb cp m)) (1 + q) 0) (suc n)
told_step cp bp m i picked h q n true true up on b c u o = grind (arith, nat_tests)
told_step cp bp m i picked h q n true false up on b c u o = grind (arith, nat_tests)
told_step cp bp m i picked h q n false true up on b c u o = grind (arith, nat_tests)
told_step cp bp m i picked h q n false false up on b c u o = grind (arith, nat_tests)

told_nothing : (bp m picked i : ℕ) (bh : Bool) → m ≡ bp → picked ≡ told bp bh picked i m 0 0 0
told_nothing bp m picked i true e = grind (arith, nat_tests)
told_nothing bp m picked i false e = grind (arith, nat_tests)

-- the whole rest of the pass
scanned_told : (best : Claim) (picked i m : ℕ) (cs : List Claim) → m ≡ fold max best.priority (map (λ (c : Claim). c.priority) cs) →
    scanned best picked i cs ≡
    told best.priority best.holder picked i m (prefix_len (λ (c : Claim). not (eqb c.priority m && c.holder)) cs)
    (prefix_len (λ (c : Claim). not (eqb c.priority m)) cs) (length cs)
unfolding scanned
scanned_told best picked i m [] e = told_nothing best.priority m picked i best.holder e
scanned_told best picked i m (c ∷ cs) e =
    let priorities : List ℕ = map (λ (c : Claim). c.priority) cs in
    let above : max best.priority c.priority ≤ fold max (max best.priority c.priority) priorities =
    fold_max_above (max best.priority c.priority) priorities in
    told_step c.priority best.priority m i picked (prefix_len (λ (c : Claim). not (eqb c.priority m && c.holder)) cs)
    (prefix_len (λ (c : Claim). not (eqb c.priority m)) cs) (length cs) c.holder best.holder
    (scanned c i (i + 1) cs) (scanned best picked (i + 1) cs) (omega arith) (omega arith)
    (λ up. (let most : max best.priority c.priority ≡ c.priority = omega arith in
    scanned_told c i (i + 1) m cs (e ∙ ap (λ (b : ℕ). fold max b priorities) most)))
    (λ on. (let most : max best.priority c.priority ≡ best.priority = omega arith in
    scanned_told best picked (i + 1) m cs (e ∙ ap (λ (b : ℕ). fold max b priorities) most)))

-- the claim of nobody: no claim of priority 0 goes before it
abbrev pub no_claim : Claim
no_claim = record { priority = 0; holder = true }

picked_as : (m h q n s : ℕ) → s ≡ told 0 true 255 0 m h q n → (0 < m → q < n) →
    s ≡ (if m == 0 then 255 else unwrap_or (cond (ltb h n) (Some h) None) (unwrap_or (cond (ltb q n) (Some q) None) 255))
picked_as m h q n s e within = grind (arith, nat_tests)

-- the whole pass picks the place of the greatest claim
pub scanned_picks : (cs : List Claim) → scanned no_claim 255 0 cs ≡ pick_of cs
scanned_picks cs =
    picked_as (greatest cs) (prefix_len (λ (c : Claim). not (eqb c.priority (greatest cs) && c.holder)) cs)
    (prefix_len (λ (c : Claim). not (eqb c.priority (greatest cs))) cs) (length cs) _
    (scanned_told no_claim 255 0 (greatest cs) cs refl) (claim_within 0 (greatest cs) cs refl)

-- the claims from a place on
claims_at : (c : CeilingsView) (states : List TaskState) (i : ℕ) (s : TaskState) → i < length states →
    claims_from c i (drop i states) ≡ claim c i (get_or states i s) ∷ claims_from c (i + 1) (drop (i + 1) states)
claims_at c states i s h = ap (claims_from c i) (drop_more states i s h)

-- a step of the pass
pub claim_scanned : (c : CeilingsView) (states : List TaskState) (i : ℕ) (s : TaskState) (best here best' : Claim) (picked picked' start : ℕ) →
    start ≡ scanned best picked i (claims_from c i (drop i states)) → i < length states → here ≡ claim c i (get_or states i s) →
    ((beats here best ≡ true) × (best' ≡ here) × (picked' ≡ i)) ⊎ ((beats here best ≡ false) × (best' ≡ best) × (picked' ≡ picked)) →
    start ≡ scanned best' picked' (i + 1) (claims_from c (i + 1) (drop (i + 1) states))
unfolding scanned
claim_scanned c states i s best here best' picked picked' start before h is step =
    let rest : List Claim = claims_from c (i + 1) (drop (i + 1) states) in
    let from : claims_from c i (drop i states) ≡ here ∷ rest = claims_at c states i s h ∙ ap (λ (x : Claim). x ∷ rest) (sym is) in
    let now : start ≡ cond (beats here best) (scanned here i (i + 1) rest) (scanned best picked (i + 1) rest) =
    subst (λ (cs : List Claim). start ≡ scanned best picked i cs) from before in
    elim step [
      | inl up ↦ rw (up.1, up.2) (rw up.0 at now)
      | inr on ↦ rw (on.1, on.2) (rw on.0 at now)
    ]

-- no task is left
pub claims_scanned : (c : CeilingsView) (states : List TaskState) (best : Claim) (picked i start : ℕ) →
    start ≡ scanned best picked i (claims_from c i (drop i states)) → length states ≤ i → start ≡ picked
unfolding scanned
claims_scanned c states best picked i start e h =
    subst (λ (ss : List TaskState). start ≡ scanned best picked i (claims_from c i ss)) (drop_all i states h) e
