-- Steps that leave what tasks hold, and let each holder go on: activations, events, a pause, a rescheduling.
use Rattle.std.proofs.Common.{◌≡◌, ◌≢◌, ℕ, ◌<◌, Bool, true, false, cond, eqb, List, [], ◌∷◌, refl, ap, sym, subst, ◌∙◌, zero, suc, Some, None, Option, slice_get, set, slice_index, bit_and, bit_or, inl, inr, ◌⊎◌}
use Rattle.std.specs.List.{fold}
use Rattle.std.proofs.lemmas.Bool.{cases_eq, eq-eqb, ne_eqb, cond_both}
use Rattle.tm_services.specs.Ceilings.{CeilingsView, current, holds}
use Rattle.tm_services.specs.Alarms.{ticked, due}
use Rattle.tm_kernel.specs.declared.kernel.TaskState.{TaskState}
use Rattle.tm_kernel.specs.declared.kernel.TaskState.TheVariants.{Suspended, Ready, Running, Waiting}
use Rattle.tm_kernel.specs.declared.spec.Action.{Action}
use Rattle.tm_kernel.specs.declared.spec.Action.TheVariants.{Nothing, Tick, Activate, Event}
use Rattle.tm_services.specs.declared.status.TheConstants.{E_OK}
use Rattle.tm_kernel.specs.State.{KernelState, nobody, paused, stopped, events_of, awaited_by}
use Rattle.tm_kernel.specs.Service.{activation, activated, events_set, event_status, woken, with_events}
use Rattle.tm_kernel.specs.Schedule.{pick, run_task, rescheduled, acted, tick, due_actions, performed, raised_actions, arrived}
use Rattle.tm_kernel.specs.Laws.{CanRun}
use Rattle.tm_kernel.specs.Nesting.{IsNested, StopKeepsNested, ArrivalKeepsNested, ReschedulingKeepsNested}

-- what tasks hold stays, and each holder that could run can run still
pub record KeepsHolders (old new : KernelState) : Type 0 where
  pub ceilings : new.ceilings ≡ old.ceilings
  pub can_run : (task : ℕ) → holds old.ceilings task ≡ true → CanRun old task → CanRun new task

-- so holders stay nested
pub keeps_nested : (old new : KernelState) → KeepsHolders old new → IsNested old → IsNested new
keeps_nested old new keeps nested = record {
  can_run = λ task held. (
      let before : holds old.ceilings task ≡ true = ap (λ (c : CeilingsView). holds c task) (sym keeps.ceilings) ∙ held in
      keeps.can_run task before (nested.can_run task before));
  nested = λ task other ne one two.
      subst (λ (c : CeilingsView). (current c other < slice_index c.priorities task) ⊎ (current c task < slice_index c.priorities other))
      (sym keeps.ceilings)
      (nested.nested task other ne (ap (λ (c : CeilingsView). holds c task) (sym keeps.ceilings) ∙ one)
      (ap (λ (c : CeilingsView). holds c other) (sym keeps.ceilings) ∙ two));
}

pub keeps_then : (a b c : KernelState) → KeepsHolders a b → KeepsHolders b c → KeepsHolders a c
keeps_then a b c p q = record {
  ceilings = q.ceilings ∙ p.ceilings;
  can_run = λ task held can. q.can_run task (ap (λ (v : CeilingsView). holds v task) p.ceilings ∙ held) (p.can_run task held can);
}

-- the task of this number is ready or running
abbrev pub CanRunIn : List TaskState → ℕ → Type 0
CanRunIn states task = (slice_get states task ≡ Some Ready) ⊎ (slice_get states task ≡ Some Running)

-- an element beside one that was put
pub beside_put : (states : List TaskState) (i task : ℕ) (put : TaskState) → task ≢ i → slice_get (set states i put) task ≡ slice_get states task
beside_put [] i task put ne = refl
beside_put (s ∷ ss) zero zero put ne = absurd (ne refl)
beside_put (s ∷ ss) zero (suc task) put ne = refl
beside_put (s ∷ ss) (suc i) zero put ne = refl
beside_put (s ∷ ss) (suc i) (suc task) put ne = beside_put ss i task put (λ e. ne (ap suc e))

-- a task that can run can run where another state was put
pub beside_can_run : (states : List TaskState) (i task : ℕ) (put : TaskState) → task ≢ i → CanRunIn states task → CanRunIn (set states i put) task
beside_can_run states i task put ne (inl ready) = inl (beside_put states i task put ne ∙ ready)
beside_can_run states i task put ne (inr running) = inr (beside_put states i task put ne ∙ running)

-- a task that can run can run where any task was made ready
pub ready_can_run : (states : List TaskState) (i task : ℕ) → CanRunIn states task → CanRunIn (set states i Ready) task
ready_can_run [] i task can = can
ready_can_run (s ∷ ss) zero zero can = inl refl
ready_can_run (s ∷ ss) zero (suc task) can = can
ready_can_run (s ∷ ss) (suc i) zero can = can
ready_can_run (s ∷ ss) (suc i) (suc task) can = ready_can_run ss i task can

-- and where any task was set running
pub running_can_run : (states : List TaskState) (i task : ℕ) → CanRunIn states task → CanRunIn (set states i Running) task
running_can_run [] i task can = can
running_can_run (s ∷ ss) zero zero can = inr refl
running_can_run (s ∷ ss) zero (suc task) can = can
running_can_run (s ∷ ss) (suc i) zero can = can
running_can_run (s ∷ ss) (suc i) (suc task) can = running_can_run ss i task can

pub activated_keeps_holders : (k : KernelState) (task : ℕ) → KeepsHolders k (activated k task)
activated_keeps_holders k task = go (eqb (activation (slice_get k.states task)) E_OK)
  where
    go : (b : Bool) → KeepsHolders k (cond b (record k { states = set k.states task Ready; events = set k.events task 0 }) k)
    go true = record { ceilings = refl; can_run = λ other _ can. ready_can_run k.states task other can }
    go false = record { ceilings = refl; can_run = λ _ _ can. can }

woken_can_run : (found : Option TaskState) (mask : ℕ) (states : List TaskState) (task other : ℕ) →
    CanRunIn states other → CanRunIn (woken found mask states task) other
woken_can_run None mask states task other can = can
woken_can_run (Some Suspended) mask states task other can = can
woken_can_run (Some Ready) mask states task other can = can
woken_can_run (Some Running) mask states task other can = can
woken_can_run (Some Waiting) mask states task other can =
    cond_both (eqb mask 0) states (set states task Ready) (λ ss. CanRunIn ss other) (λ _. can) (λ _. ready_can_run states task other can)

with_events_keeps_holders : (k : KernelState) (task mask : ℕ) → KeepsHolders k (with_events k task mask)
with_events_keeps_holders k task mask = record {
  ceilings = refl;
  can_run = λ other _ can. woken_can_run (slice_get k.states task) (bit_and (bit_or (events_of k task) mask) (awaited_by k task)) k.states task other can;
}

pub events_set_keeps_holders : (k : KernelState) (task mask : ℕ) → KeepsHolders k (events_set k task mask)
events_set_keeps_holders k task mask =
    cond_both (eqb (event_status k task) E_OK) (with_events k task mask) k (KeepsHolders k)
    (λ _. with_events_keeps_holders k task mask) (λ _. record { ceilings = refl; can_run = λ _ _ can. can })

acted_keeps_holders : (k : KernelState) (action : Action) → KeepsHolders k (acted k action)
acted_keeps_holders k Nothing = record { ceilings = refl; can_run = λ _ _ can. can }
acted_keeps_holders k Tick = record { ceilings = refl; can_run = λ _ _ can. can }
acted_keeps_holders k (Activate task) = activated_keeps_holders k task
acted_keeps_holders k (Event task mask) = events_set_keeps_holders k task mask

all_acted_keep_holders : (actions : List Action) (k : KernelState) → KeepsHolders k (fold acted k actions)
all_acted_keep_holders [] k = record { ceilings = refl; can_run = λ _ _ can. can }
all_acted_keep_holders (a ∷ rest) k = keeps_then k (acted k a) _ (acted_keeps_holders k a) (all_acted_keep_holders rest (acted k a))

tick_keeps_holders : (k : KernelState) → KeepsHolders k (tick k)
tick_keeps_holders k =
    keeps_then k (record k { alarms = ticked k.alarms }) (tick k) (record { ceilings = refl; can_run = λ _ _ can. can })
    (all_acted_keep_holders (due_actions (due k.alarms) k.spec.alarms) (record k { alarms = ticked k.alarms }))

performed_keeps_holders : (k : KernelState) (action : Action) → KeepsHolders k (performed k action)
performed_keeps_holders k Nothing = record { ceilings = refl; can_run = λ _ _ can. can }
performed_keeps_holders k Tick = tick_keeps_holders k
performed_keeps_holders k (Activate task) = activated_keeps_holders k task
performed_keeps_holders k (Event task mask) = events_set_keeps_holders k task mask

all_performed_keep_holders : (actions : List Action) (k : KernelState) → KeepsHolders k (fold performed k actions)
all_performed_keep_holders [] k = record { ceilings = refl; can_run = λ _ _ can. can }
all_performed_keep_holders (a ∷ rest) k = keeps_then k (performed k a) _ (performed_keeps_holders k a) (all_performed_keep_holders rest (performed k a))

pub arrival_keeps_nested : ArrivalKeepsNested
arrival_keeps_nested k mask ports h nested =
    keeps_nested k (arrived k mask ports)
    (keeps_then k (record k { ports = ports }) (arrived k mask ports) (record { ceilings = refl; can_run = λ _ _ can. can })
    (all_performed_keep_holders (raised_actions mask 0 k.spec.lines) (record k { ports = ports })))
    nested

paused_can_run : (k : KernelState) (task : ℕ) → CanRun k task → CanRunIn (paused k) task
paused_can_run k task can =
    cond_both (eqb k.running nobody) k.states (set k.states k.running Ready) (λ ss. CanRunIn ss task)
    (λ _. can) (λ _. ready_can_run k.states k.running task can)

pub stopped_keeps_holders : (k : KernelState) (fault : Bool) → KeepsHolders k (stopped k fault)
stopped_keeps_holders k fault = record { ceilings = refl; can_run = λ task _ can. paused_can_run k task can }

pub stop_keeps_nested : StopKeepsNested
stop_keeps_nested k fault h nested = keeps_nested k (stopped k fault) (stopped_keeps_holders k fault) nested

run_keeps_holders : (k : KernelState) (task : ℕ) → KeepsHolders k (run_task k task)
run_keeps_holders k task = record {
  ceilings = refl;
  can_run = λ other _ can. running_can_run (paused k) task other (paused_can_run k other can);
}

-- what a rescheduling leaves, by cases
pub rescheduled_by : (P : KernelState → Type 0) (k : KernelState) → (k.ended ≢ 0 → P k) → (k.ended ≡ 0 → pick k ≡ nobody → P k) →
    (k.ended ≡ 0 → pick k ≢ nobody → P (run_task k (pick k))) → P (rescheduled k)
rescheduled_by P k over none picked = elim (cases_eq k.ended 0) [
  | inr ended ↦ subst P (sym (ap (λ b. cond b (cond (eqb (pick k) nobody) k (run_task k (pick k))) k) (ne_eqb k.ended 0 ended))) (over ended)
  | inl on ↦
      let inner : rescheduled k ≡ cond (eqb (pick k) nobody) k (run_task k (pick k)) =
      ap (λ b. cond b (cond (eqb (pick k) nobody) k (run_task k (pick k))) k) (eq-eqb k.ended 0 on) in
      elim (cases_eq (pick k) nobody) [
        | inl e ↦ subst P (sym (inner ∙ ap (λ b. cond b k (run_task k (pick k))) (eq-eqb (pick k) nobody e))) (none on e)
        | inr ne ↦ subst P (sym (inner ∙ ap (λ b. cond b k (run_task k (pick k))) (ne_eqb (pick k) nobody ne))) (picked on ne)
      ]
]

pub rescheduling_keeps_nested : ReschedulingKeepsNested
rescheduling_keeps_nested k h nested =
    rescheduled_by IsNested k (λ _. nested) (λ _ _. nested)
    (λ _ _. keeps_nested k (run_task k (pick k)) (run_keeps_holders k (pick k)) nested)
