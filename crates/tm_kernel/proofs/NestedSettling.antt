-- After a rescheduling the running task is the picked one: to pause and to run leave all claims as they were.
use Rattle.std.proofs.Common.{◌≡◌, ◌≢◌, ℕ, ◌+◌, ◌<◌, cond, List, [], ◌∷◌, length, refl, ap, sym, subst, ◌∙◌, arith, zero, suc, Some, slice_get, set, slice_index, get_or, map, replicate, ◌++◌, ◌-◌, inl, inr, ◌⊎◌}
use Rattle.std.proofs.lemmas.Bool.{cases_eq, eq-eqb, ne_eqb}
use Rattle.std.proofs.lemmas.Option.{same_Some, slice_get_within, get_or_from_slice_get}
use Rattle.std.proofs.lemmas.List.Elements.{All-get_or}
use Rattle.tm_services.specs.Ceilings.{CeilingsView}
use Rattle.tm_kernel.specs.declared.spec.TaskSpec.{TaskSpec}
use Rattle.tm_kernel.specs.declared.kernel.TaskState.{TaskState}
use Rattle.tm_kernel.specs.declared.kernel.TaskState.TheVariants.{Ready, Running}
use Rattle.tm_kernel.specs.State.{KernelState, IsKernel, nobody, paused}
use Rattle.tm_kernel.specs.Schedule.{greatest, claim, claims_from, claims, pick, pick_of, run_task, rescheduled}
use Rattle.tm_kernel.specs.Laws.{CanRun, PicksSomebody}
use Rattle.tm_kernel.specs.Nesting.{IsSettled, IsIdleAtEnd, EveryReschedulingSettles}
use Rattle.tm_kernel.proofs.NestedLeaders.{pick_leads, running_claim}
use Rattle.tm_kernel.proofs.NestedPicks.{claim_below_greatest, pick_of_within}
use Rattle.tm_kernel.proofs.NestedPriorities.{static_below_current}
use Rattle.tm_kernel.proofs.NestedStates.{CanRunIn, ready_can_run, rescheduled_by}

length-claims_from : (c : CeilingsView) (first : ℕ) (states : List TaskState) → length (claims_from c first states) ≡ length states
length-claims_from c first [] = refl
length-claims_from c first (s ∷ ss) = ap suc (length-claims_from c (first + 1) ss)

padded_positive : (tasks : List TaskSpec) (rest : List ℕ) (task : ℕ) → ((i : ℕ) (t : TaskSpec) → slice_get tasks i ≡ Some t → 0 < t.priority) →
    task < length tasks → 0 < get_or (map (λ t. t.priority) tasks ++ rest) task 0
padded_positive [] rest task all h = absurd (omega arith)
padded_positive (t ∷ ts) rest zero all h = all zero t refl
padded_positive (t ∷ ts) rest (suc task) all h = padded_positive ts rest task (λ i. all (suc i)) (omega arith)

-- every task has a static priority above 0
static_positive : (k : KernelState) (task : ℕ) → IsKernel k → task < length k.spec.tasks → 0 < slice_index k.ceilings.priorities task
static_positive k task h there =
    subst (λ (ps : List ℕ). 0 < get_or ps task 0) (sym h.priorities)
    (padded_positive k.spec.tasks (replicate (16 - length (map (λ (t : TaskSpec). t.priority) k.spec.tasks)) 0) task
    (λ i t at. subst (λ (u : TaskSpec). 0 < u.priority) (get_or_from_slice_get k.spec.tasks i t t at)
    (All-get_or (λ (u : TaskSpec). 0 < u.priority) k.spec.tasks i t (slice_get_within k.spec.tasks i t at) h.spec.priorities))
    there)

within_states : (k : KernelState) (task : ℕ) → CanRun k task → task < length k.states
within_states k task (inl ready) = slice_get_within k.states task Ready ready
within_states k task (inr running) = slice_get_within k.states task Running running

-- somebody is picked where a task can run
somebody_picked : PicksSomebody
somebody_picked k task h can none =
    let positive : 0 < slice_index k.ceilings.priorities task = static_positive k task h (omega (arith, within_states k task can, h.states)) in
    let some : 0 < greatest (claims k) =
    omega (arith, positive, static_below_current k.ceilings task, claim_below_greatest (claims k) task _ (running_claim k task can)) in
    omega (arith, none, pick_of_within (claims k) some, length-claims_from k.ceilings 0 k.states, h.states, h.spec.few_tasks)

-- ready and running have the same claim
same_claim : (c : CeilingsView) (task : ℕ) (s put : TaskState) → (s ≡ Ready) ⊎ (s ≡ Running) → (put ≡ Ready) ⊎ (put ≡ Running) →
    claim c task put ≡ claim c task s
same_claim c task s put (inl e) (inl f) = ap (claim c task) (f ∙ sym e)
same_claim c task s put (inl e) (inr f) = ap (claim c task) f ∙ ap (claim c task) (sym e)
same_claim c task s put (inr e) (inl f) = ap (claim c task) f ∙ ap (claim c task) (sym e)
same_claim c task s put (inr e) (inr f) = ap (claim c task) (f ∙ sym e)

state_that_runs : (s : TaskState) → (Some s ≡ Some Ready) ⊎ (Some s ≡ Some Running) → (s ≡ Ready) ⊎ (s ≡ Running)
state_that_runs s (inl e) = inl (same_Some s Ready e)
state_that_runs s (inr e) = inr (same_Some s Running e)

-- to put ready or running where a task can run leaves all claims
claims_stay : (c : CeilingsView) (first i : ℕ) (states : List TaskState) (put : TaskState) → (put ≡ Ready) ⊎ (put ≡ Running) →
    CanRunIn states i → claims_from c first (set states i put) ≡ claims_from c first states
claims_stay c first i [] put runs can = refl
claims_stay c first zero (s ∷ ss) put runs can =
    ap (λ x. x ∷ claims_from c (first + 1) ss) (same_claim c first s put (state_that_runs s can) runs)
claims_stay c first (suc i) (s ∷ ss) put runs can = ap (λ xs. claim c first s ∷ xs) (claims_stay c (first + 1) i ss put runs can)

-- the pause leaves all claims, and who could run can run still
record IsPause (k : KernelState) (states : List TaskState) : Type 0 where
  claims : claims_from k.ceilings 0 states ≡ claims k
  can_run : (task : ℕ) → CanRun k task → CanRunIn states task

is_pause : (k : KernelState) → IsKernel k → IsPause k (paused k)
is_pause k h = elim (cases_eq k.running nobody) [
  | inl e ↦
      subst (IsPause k) (sym (ap (λ b. cond b k.states (set k.states k.running Ready)) (eq-eqb k.running nobody e)))
      (record { claims = refl; can_run = λ _ can. can })
  | inr ne ↦
      let runs : CanRun k k.running = elim h.running [
        | inl none ↦ absurd (ne none)
        | inr there ↦ inr there
      ] in
      subst (IsPause k) (sym (ap (λ b. cond b k.states (set k.states k.running Ready)) (ne_eqb k.running nobody ne)))
      (record {
        claims = claims_stay k.ceilings 0 k.running k.states Ready (inl refl) runs;
        can_run = λ task can. ready_can_run k.states k.running task can;
      })
]

-- to run a task that can run leaves the pick
pub pick_stays : (k : KernelState) (task : ℕ) → IsKernel k → CanRun k task → pick (run_task k task) ≡ pick k
pick_stays k task h can =
    let pause : IsPause k (paused k) = is_pause k h in
    ap pick_of (claims_stay k.ceilings 0 task (paused k) Running (inr refl) (pause.can_run task can) ∙ pause.claims)

-- where nobody is picked, nobody runs
nobody_runs : (k : KernelState) → IsKernel k → pick k ≡ nobody → k.running ≢ nobody → ⊥
nobody_runs k h e ne = elim h.running [
  | inl none ↦ ne none
  | inr there ↦ somebody_picked k k.running h (inr there) e
]

-- the running task is the picked one; while the run goes on nobody runs only where nobody is picked, and
-- after its end nobody runs
record Settled (k new : KernelState) : Type 0 where
  settled : IsSettled new
  nobody_waits : k.ended ≡ 0 → new.running ≡ nobody → pick new ≡ nobody
  idle : IsIdleAtEnd new

settled_by : (k : KernelState) → IsKernel k → IsIdleAtEnd k → Settled k (rescheduled k)
settled_by k h idle = rescheduled_by (Settled k) k
    (λ ended. record { settled = λ ne. absurd (ne (idle ended)); nobody_waits = λ on. absurd (ended on); idle = idle })
    (λ on none. record { settled = λ ne. absurd (nobody_runs k h none ne); nobody_waits = λ _ _. none; idle = idle })
    (λ on some.
    let same : pick (run_task k (pick k)) ≡ pick k = pick_stays k (pick k) h (pick_leads k some).can_run in
    record { settled = λ _. sym same; nobody_waits = λ _ none. absurd (some none); idle = λ ended. absurd (ended on) })

pub every_rescheduling_settles : EveryReschedulingSettles
every_rescheduling_settles k h idle =
    let all : Settled k (rescheduled k) = settled_by k h idle in
    record { settled = all.settled; nobody_waits = all.nobody_waits; idle = all.idle }
