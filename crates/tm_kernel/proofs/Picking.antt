-- What the pick names: a task that can run, of greatest current priority.
use Rattle.std.proofs.Common.{◌≡◌, ◌≢◌, ℕ, ◌+◌, ◌<◌, ◌≤◌, subst, false, not, List, [], ◌∷◌, length, map, max, get_or, refl, ap, sym, ◌∙◌, arith, Some, None, unwrap_or, suc, ◌⊎◌, inl, inr, zero, slice_get, slice_index, Option, ◌==◌, ◌&&◌}
use Rattle.std.specs.List.{fold, prefix_len}
use Rattle.std.proofs.lemmas.List.{length-map, get_or-map, get_or_append_left}
use Rattle.std.proofs.lemmas.List.Elements.{All-get_or}
use Rattle.std.proofs.lemmas.List.Quantifiers.{position-Some}
use Rattle.std.proofs.lemmas.Option.{none-some, same_Some, slice_get_within}
use Rattle.std.proofs.lemmas.Bool.{cases_eq, eq-eqb, eqb-true, ne_eqb, lt-ltb, and_parts}
use Rattle.tm_services.specs.Ceilings.{CeilingsView, current, held_by, ceiling}
use Rattle.tm_kernel.specs.declared.spec.TaskSpec.{TaskSpec}
use Rattle.tm_kernel.specs.declared.kernel.claim.Claim.{Claim}
use Rattle.tm_kernel.specs.declared.kernel.TaskState.{TaskState}
use Rattle.tm_kernel.specs.declared.kernel.TaskState.TheVariants.{Suspended, Ready, Running, Waiting}
use Rattle.tm_kernel.specs.State.{KernelState, IsKernel, nobody}
use Rattle.tm_kernel.specs.Schedule.{pick, pick_of, claim, claims, claims_from, greatest, first_holder, first_claim}
use Rattle.tm_kernel.specs.Laws.{CanRun, IsGreatest, PicksSomebody, PicksGreatest}
use Rattle.tm_kernel.proofs.Scan.{fold_max_above, claim_within}

-- no number is above the greatest
pub below_fold_max : (best : ℕ) (xs : List ℕ) (i : ℕ) → get_or xs i 0 ≤ fold max best xs
below_fold_max best [] i = omega arith
below_fold_max best (x ∷ xs) zero = omega (arith, fold_max_above (max best x) xs)
below_fold_max best (x ∷ xs) (suc i) = below_fold_max (max best x) xs i

pub length-claims_from : (c : CeilingsView) (task : ℕ) (states : List TaskState) → length (claims_from c task states) ≡ length states
length-claims_from c task [] = refl
length-claims_from c task (s ∷ ss) = ap suc (length-claims_from c (task + 1) ss)

-- the claim of a task that there is
pub claims_from_at : (c : CeilingsView) (first : ℕ) (states : List TaskState) (i task : ℕ) (s : TaskState) → slice_get states i ≡ Some s →
    task ≡ first + i → slice_get (claims_from c first states) i ≡ Some (claim c task s)
claims_from_at c first [] i task s e is = absurd (none-some s e)
claims_from_at c first (x ∷ ss) zero task s e is =
    let same : first ≡ task = omega arith in
    subst (λ (n : ℕ). Some (claim c first x) ≡ Some (claim c n s)) same (ap (λ (y : TaskState). Some (claim c first y)) (same_Some x s e))
claims_from_at c first (x ∷ ss) (suc i) task s e is = claims_from_at c (first + 1) ss i task s e (omega arith)

-- an element that there is
pub slice_get_there : {X : Type 0} (xs : List X) (i : ℕ) → i < length xs → (x : X) × (slice_get xs i ≡ Some x)
slice_get_there [] i h = absurd (omega arith)
slice_get_there (x ∷ xs) zero h = (x, refl)
slice_get_there (x ∷ xs) (suc i) h = slice_get_there xs i (omega arith)

-- the priority of a claim that there is
priority_at : (cs : List Claim) (i : ℕ) (c : Claim) → slice_get cs i ≡ Some c → get_or (map (λ (c : Claim). c.priority) cs) i 0 ≡ c.priority
priority_at [] i c e = absurd (none-some c e)
priority_at (x ∷ cs) zero c e = cc
priority_at (x ∷ cs) (suc i) c e = priority_at cs i c e

-- the place that is picked: of the greatest priority, which is above 0
pub record IsPlace (cs : List Claim) (p : ℕ) : Type 0 where
  pub picked : pick_of cs ≡ p
  pub within : p < length cs
  pub reaches : get_or (map (λ (c : Claim). c.priority) cs) p 0 ≡ greatest cs
  pub some : 0 < greatest cs

none_claim : Claim
none_claim = record { priority = 0; holder = false }

-- the place of the first claim of the greatest priority
first_of_greatest : (cs : List Claim) → 0 < greatest cs → (p : ℕ) × (first_claim (greatest cs) cs ≡ Some p)
first_of_greatest cs some =
    let first : ℕ = prefix_len (λ (c : Claim). not (c.priority == greatest cs)) cs in
    let within : first < length cs = claim_within 0 (greatest cs) cs refl some in
    (first, rw (lt-ltb first (length cs) within) refl)

pub pick_cases : (cs : List Claim) → ((pick_of cs ≡ nobody) × (greatest cs ≡ 0)) ⊎ ((p : ℕ) × IsPlace cs p)
pick_cases cs = elim (cases_eq (greatest cs) 0) [
  | inl e ↦ inl (rw (eq-eqb (greatest cs) 0 e) refl, e)
  | inr ne ↦ inr (
      let some : 0 < greatest cs = omega arith in
      let first = first_of_greatest cs some in
      place_of some (first_holder (greatest cs) cs) refl first.0 first.1)
]
  where
    hits : (p : ℕ) → p < length cs → (get_or cs p none_claim).priority ≡ greatest cs → get_or (map (λ (c : Claim). c.priority) cs) p 0 ≡ greatest cs
    hits p within e = get_or-map (λ (c : Claim). c.priority) cs p none_claim 0 within ∙ e

    pick_by : 0 < greatest cs → (holder : Option ℕ) → first_holder (greatest cs) cs ≡ holder → (first : Option ℕ) → first_claim (greatest cs) cs ≡ first →
        pick_of cs ≡ unwrap_or holder (unwrap_or first nobody)
    pick_by some holder h first f = rw (ne_eqb (greatest cs) 0 (λ e. omega arith), h, f) refl

    at_first : 0 < greatest cs → (f : ℕ) → first_claim (greatest cs) cs ≡ Some f → pick_of cs ≡ f → (p : ℕ) × IsPlace cs p
    at_first some f first is =
        let there = position-Some (λ (c : Claim). c.priority == greatest cs) cs f none_claim first in (
          f,
          record {
            picked = is;
            within = there.0;
            reaches = hits f there.0 (eqb-true _ (greatest cs) there.1);
            some = some;
          },
        )

    at_holder : 0 < greatest cs → (h : ℕ) → first_holder (greatest cs) cs ≡ Some h → pick_of cs ≡ h → (p : ℕ) × IsPlace cs p
    at_holder some h first is =
        let there = position-Some (λ (c : Claim). c.priority == greatest cs && c.holder) cs h none_claim first in (
          h,
          record {
            picked = is;
            within = there.0;
            reaches = hits h there.0 (eqb-true _ (greatest cs) (and_parts ((get_or cs h none_claim).priority == greatest cs) (get_or cs h none_claim).holder there.1).0);
            some = some;
          },
        )

    place_of : 0 < greatest cs → (holder : Option ℕ) → first_holder (greatest cs) cs ≡ holder → (f : ℕ) → first_claim (greatest cs) cs ≡ Some f →
        (p : ℕ) × IsPlace cs p
    place_of some None h f first = at_first some f first (pick_by some None h (Some f) first)
    place_of some (Some p) h f first = at_holder some p h (pick_by some (Some p) h (Some f) first)

-- the pick is nobody, or a task that there is
pub pick_within : (k : KernelState) → IsKernel k → pick k ≢ nobody → pick k < length k.states
pick_within k h ne = elim (pick_cases (claims k)) [
  | inl none ↦ absurd (ne none.0)
  | inr (p, top) ↦ omega (arith, top.picked, top.within, length-claims_from k.ceilings 0 k.states)
]

pub pick_within_at : (k : KernelState) (task : ℕ) → IsKernel k → task ≡ pick k → task ≢ nobody → task < length k.states
pick_within_at k task h is ne = rw is (pick_within k h (λ e. ne (is ∙ e)))

-- a task's current priority is above 0
pub current_above : (k : KernelState) (task : ℕ) → IsKernel k → task < length k.spec.tasks → 0 < current k.ceilings task
current_above k task h within =
    let (t, found) = slice_get_there k.spec.tasks task within in
    let priorities : List ℕ = map (λ (t : TaskSpec). t.priority) k.spec.tasks in
    let number : length priorities ≡ length k.spec.tasks = length-map k.spec.tasks (λ (t : TaskSpec). t.priority) in
    let static : slice_index k.ceilings.priorities task ≡ (get_or k.spec.tasks task t).priority =
    ap (λ (ps : List ℕ). slice_index ps task) h.priorities
    ∙ get_or_append_left priorities _ 0 task (omega arith) ∙ get_or-map (λ (t : TaskSpec). t.priority) k.spec.tasks task t 0 within in
    let some : 0 < (get_or k.spec.tasks task t).priority = All-get_or (λ (t : TaskSpec). 0 < t.priority) k.spec.tasks task t within h.spec.priorities in
    let above : slice_index k.ceilings.priorities task ≤ current k.ceilings task =
    fold_max_above (slice_index k.ceilings.priorities task) (map (ceiling k.ceilings) (held_by k.ceilings task)) in
    omega arith

-- a task that can run claims its current priority
pub record Runner (k : KernelState) (task : ℕ) : Type 0 where
  pub within : task < length k.spec.tasks
  pub above : 0 < current k.ceilings task
  pub claims : get_or (map (λ (c : Claim). c.priority) (claims k)) task 0 ≡ current k.ceilings task

runner_in : (k : KernelState) (task : ℕ) (s : TaskState) → IsKernel k → slice_get k.states task ≡ Some s →
    (claim k.ceilings task s).priority ≡ current k.ceilings task → Runner k task
runner_in k task s h e same =
    let within : task < length k.spec.tasks = omega (arith, slice_get_within k.states task s e, h.states) in
    record {
      within = within;
      above = current_above k task h within;
      claims = priority_at (claims k) task (claim k.ceilings task s) (claims_from_at k.ceilings 0 k.states task task s e (omega arith)) ∙ same;
    }

pub runner : (k : KernelState) (task : ℕ) → IsKernel k → CanRun k task → Runner k task
runner k task h (inl ready) = runner_in k task Ready h ready refl
runner k task h (inr running) = runner_in k task Running h running refl

-- somebody is picked where a task can run
pub pick_somebody : PicksSomebody
pick_somebody k task h can e =
    let one : Runner k task = runner k task h can in
    let below = below_fold_max 0 (map (λ (c : Claim). c.priority) (claims k)) task in
    elim (pick_cases (claims k)) [
      | inl none ↦ omega (arith, one.above, one.claims, below, none.1)
      | inr (p, top) ↦ omega (arith, e, top.picked, top.within, length-claims_from k.ceilings 0 k.states, h.states, h.spec.few_tasks)
    ]

can_run_of : (c : CeilingsView) (task : ℕ) (s : TaskState) → 0 < (claim c task s).priority → (s ≡ Ready) ⊎ (s ≡ Running)
can_run_of c task Suspended h = absurd (omega arith)
can_run_of c task Ready h = inl refl
can_run_of c task Running h = inr refl
can_run_of c task Waiting h = absurd (omega arith)

place_is_greatest : (k : KernelState) (p : ℕ) → IsKernel k → IsPlace (claims k) p → IsGreatest k p
place_is_greatest k p h top =
    let within : p < length k.states = omega (arith, top.within, length-claims_from k.ceilings 0 k.states) in
    let (s, state) = slice_get_there k.states p within in
    let at : get_or (map (λ (c : Claim). c.priority) (claims k)) p 0 ≡ (claim k.ceilings p s).priority =
    priority_at (claims k) p (claim k.ceilings p s) (claims_from_at k.ceilings 0 k.states p p s state (omega arith)) in
    let can : CanRun k p = elim (can_run_of k.ceilings p s (omega (arith, top.reaches, top.some))) [
      | inl e ↦ inl (state ∙ ap Some e)
      | inr e ↦ inr (state ∙ ap Some e)
    ] in
    record {
      there = omega (arith, h.states);
      can_run = can;
      greatest = λ other runs. (
          let one : Runner k p = runner k p h can in
          let two : Runner k other = runner k other h runs in
          let below = below_fold_max 0 (map (λ (c : Claim). c.priority) (claims k)) other in
          omega (arith, one.claims, two.claims, top.reaches));
    }

-- the pick is the greatest of those that can run
pub pick_greatest : PicksGreatest
pick_greatest k h ne = elim (pick_cases (claims k)) [
  | inl none ↦ absurd (ne none.0)
  | inr (p, top) ↦ subst (IsGreatest k) (sym top.picked) (place_is_greatest k p h top)
]
