-- The picked task among those that can run, and why a declared user never finds a held resource.
use Rattle.std.proofs.Common.{◌≡◌, ◌≢◌, ℕ, ◌+◌, ◌<◌, ◌≤◌, true, List, [], ◌∷◌, refl, ap, sym, subst, ◌∙◌, arith, zero, suc, Some, slice_get, inl, inr, ◌⊎◌}
use Rattle.std.proofs.lemmas.Bool.{cases_Bool, both_ways, cases_eq}
use Rattle.std.proofs.lemmas.Option.{none-some, same_Some}
use Rattle.tm_services.specs.Ceilings.{CeilingsView, current, holds}
use Rattle.tm_kernel.specs.declared.kernel.TaskState.{TaskState}
use Rattle.tm_kernel.specs.declared.kernel.TaskState.TheVariants.{Suspended, Ready, Running, Waiting}
use Rattle.tm_kernel.specs.State.{KernelState, IsKernel, IsRunning, nobody}
use Rattle.tm_kernel.specs.declared.kernel.claim.Claim.{Claim}
use Rattle.tm_kernel.specs.Schedule.{claim, claims_from, claims, pick}
use Rattle.tm_kernel.specs.Laws.{CanRun}
use Rattle.tm_kernel.specs.Nesting.{IsAbove, IsNested, IsSettled, HoldersDiffer, UsersNeverBlock}
use Rattle.tm_kernel.proofs.NestedPriorities.{static_below_current, ceiling_below_current, user_below_ceiling, current_of_free, holds_of_contains}
use Rattle.tm_kernel.proofs.NestedPicks.{IsPicked, pick_of_is_picked}

-- a task's claim stands at its place
pub claim_at : (c : CeilingsView) (first i : ℕ) (states : List TaskState) (s : TaskState) → slice_get states i ≡ Some s →
    slice_get (claims_from c first states) i ≡ Some (claim c (first + i) s)
claim_at c first i [] s e = absurd (none-some s e)
claim_at c first zero (r ∷ rs) s e =
    let same : r ≡ s = same_Some r s e in
    let here : first ≡ first + 0 = omega arith in
    ap (λ x. Some (claim c first x)) same ∙ ap (λ (n : ℕ). Some (claim c n s)) here
claim_at c first (suc i) (r ∷ rs) s e =
    let on : first + 1 + i ≡ first + suc i = omega arith in
    claim_at c (first + 1) i rs s e ∙ ap (λ (n : ℕ). Some (claim c n s)) on

-- a claim that stands at a place is a task's
pub claim_from : (c : CeilingsView) (first i : ℕ) (states : List TaskState) (d : Claim) → slice_get (claims_from c first states) i ≡ Some d →
    (s : TaskState) × (slice_get states i ≡ Some s) × (d ≡ claim c (first + i) s)
claim_from c first i [] d e = absurd (none-some d e)
claim_from c first zero (r ∷ rs) d e =
    let here : first ≡ first + 0 = omega arith in
    (r, refl, sym (same_Some (claim c first r) d e) ∙ ap (λ (n : ℕ). claim c n r) here)
claim_from c first (suc i) (r ∷ rs) d e =
    let on : first + 1 + i ≡ first + suc i = omega arith in
    let (s, at, is) = claim_from c (first + 1) i rs d e in
    (s, at, is ∙ ap (λ (n : ℕ). claim c n s) on)

-- who claims with a priority above 0 can run, and claims its current priority
claim_above : (c : CeilingsView) (task : ℕ) (s : TaskState) → 0 < (claim c task s).priority →
    ((s ≡ Ready) ⊎ (s ≡ Running)) × ((claim c task s).priority ≡ current c task) × ((claim c task s).holder ≡ holds c task)
claim_above c task Suspended h = absurd (omega arith)
claim_above c task Ready h = (inl refl, refl, refl)
claim_above c task Running h = (inr refl, refl, refl)
claim_above c task Waiting h = absurd (omega arith)

-- the claim of a task that can run
pub running_claim : (k : KernelState) (task : ℕ) → CanRun k task →
    slice_get (claims k) task ≡ Some (record { priority = current k.ceilings task; holder = holds k.ceilings task })
running_claim k task (inl ready) = claim_at k.ceilings 0 task k.states Ready ready ∙ ap (λ (n : ℕ). Some (claim k.ceilings n Ready)) (omega arith)
running_claim k task (inr running) = claim_at k.ceilings 0 task k.states Running running ∙ ap (λ (n : ℕ). Some (claim k.ceilings n Running)) (omega arith)

-- the task can run, none that can has a greater current priority, and where one of as great a priority
-- holds a resource, so does it
pub record IsLeader (k : KernelState) (task : ℕ) : Type 0 where
  pub can_run : CanRun k task
  pub greatest : (other : ℕ) → CanRun k other → current k.ceilings other ≤ current k.ceilings task
  pub holder : (other : ℕ) → CanRun k other → current k.ceilings other ≡ current k.ceilings task →
      holds k.ceilings other ≡ true → holds k.ceilings task ≡ true

picked_leads : (k : KernelState) (p : ℕ) → IsPicked (claims k) p → IsLeader k p
picked_leads k p h =
    let (s, at, was) = claim_from k.ceilings 0 p k.states h.top h.found in
    let is : h.top ≡ claim k.ceilings p s = was ∙ ap (λ (n : ℕ). claim k.ceilings n s) (omega arith) in
    let above : 0 < (claim k.ceilings p s).priority = subst (λ (d : Claim). 0 < d.priority) is h.positive in
    let (runs, priority, holder) = claim_above k.ceilings p s above in
    let top : h.top.priority ≡ current k.ceilings p = ap (λ (d : Claim). d.priority) is ∙ priority in
    record {
      can_run = elim runs [
        | inl e ↦ inl (at ∙ ap Some e)
        | inr e ↦ inr (at ∙ ap Some e)
      ];
      greatest = λ other can. subst (λ (n : ℕ). current k.ceilings other ≤ n) top (h.greatest other _ (running_claim k other can));
      holder = λ other can same holding.
          sym holder ∙ sym (ap (λ (d : Claim). d.holder) is) ∙ h.holder other _ (running_claim k other can) (same ∙ sym top) holding;
    }

-- the pick leads, where there is one
pub pick_leads : (k : KernelState) → pick k ≢ nobody → IsLeader k (pick k)
pick_leads k ne = picked_leads k (pick k) (pick_of_is_picked (claims k) ne)

-- so the running task leads, where it is the pick
pub running_leads : (k : KernelState) (task : ℕ) → IsKernel k → IsSettled k → IsRunning k task → IsLeader k task
running_leads k task h settled runs =
    let there : k.running ≢ nobody = λ e. omega (arith, runs.runs, runs.there, h.states, h.spec.few_tasks, e) in
    let is : pick k ≡ task = sym (settled there) ∙ runs.runs in
    subst (IsLeader k) is (pick_leads k (λ e. there (settled there ∙ e)))

pub holders_differ : HoldersDiffer
holders_differ k task other nested apart one two same = elim (nested.nested task other apart one two) [
  | inl above ↦ omega (arith, above, same, static_below_current k.ceilings task)
  | inr under ↦ omega (arith, under, same, static_below_current k.ceilings other)
]

-- where the leader holds no resource, it is above each holder; where it holds one, it is too
pub leader_above : (k : KernelState) (task other : ℕ) → IsNested k → IsLeader k task → other ≢ task →
    holds k.ceilings other ≡ true → IsAbove k task other
leader_above k task other nested leads ne holding =
    let can : CanRun k other = nested.can_run other holding in
    let below : current k.ceilings other ≤ current k.ceilings task = leads.greatest other can in
    elim (cases_Bool (holds k.ceilings task)) [
      | inl held ↦ elim (nested.nested task other (λ e. ne (sym e)) held holding) [
        | inl above ↦ above
        | inr under ↦ absurd (omega (arith, below, under, static_below_current k.ceilings other))
      ]
      | inr free ↦ elim (cases_eq (current k.ceilings other) (current k.ceilings task)) [
        | inl same ↦ absurd (both_ways (holds k.ceilings task) free (leads.holder other can same holding))
        | inr apart ↦ omega (arith, below, apart, current_of_free k.ceilings task free)
      ]
    ]

pub users_never_block : UsersNeverBlock
users_never_block k task res other h nested settled runs there user ne found =
    let leads : IsLeader k task = running_leads k task h settled runs in
    let above : IsAbove k task other = leader_above k task other nested leads ne (holds_of_contains k.ceilings other res found) in
    omega (arith, above, ceiling_below_current k.ceilings other res found, user_below_ceiling k.ceilings task res user)
