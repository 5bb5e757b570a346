-- What a rescheduling, an arrival and the end of a run leave.
use Rattle.std.proofs.Common.{◌≡◌, ◌≢◌, ℕ, ◌<◌, Bool, true, false, List, [], ◌∷◌, length, refl, ap, sym, ◌∙◌, subst, arith, ◌⊎◌, inl, inr, slice_get, slice_set, length-set, Option, Some, None, if◌then◌else◌, ◌==◌, bit_and, bit_or}
use Rattle.std.specs.List.{fold}
use Rattle.std.proofs.lemmas.Bool.{cases_eq, eq-eqb, ne_eqb}
use Rattle.std.proofs.lemmas.Option.{slice_get_within}
use Rattle.tm_kernel.specs.declared.kernel.TaskState.{TaskState}
use Rattle.tm_kernel.specs.declared.kernel.TaskState.TheVariants.{Suspended, Ready, Running, Waiting}
use Rattle.tm_kernel.specs.declared.spec.Action.{Action}
use Rattle.tm_kernel.specs.declared.spec.Action.TheVariants.{Nothing, Tick, Activate, Event}
use Rattle.tm_services.specs.declared.status.TheConstants.{E_OK}
use Rattle.tm_services.specs.Alarms.{ticked, due}
use Rattle.tm_kernel.specs.State.{KernelState, IsKernel, nobody, stopped, events_of, awaited_by}
use Rattle.tm_kernel.specs.Service.{activation, activated, events_set, event_status, with_events, woken}
use Rattle.tm_kernel.specs.Schedule.{pick, run_task, rescheduled, acted, tick, due_actions, performed, raised_actions, arrived}
use Rattle.tm_kernel.specs.Laws.{CanRun, SameButStates, RunKeeps, ReschedulingKeeps, RunsThePick, RunsATask, ReschedulingSameRest, GoesOnRunning, ArrivalLatches, ArrivalGoesOn, StopEnds}
use Rattle.tm_kernel.proofs.Keeping.{runs_keeps, arrived_keeps, slice_get_set_same}
use Rattle.tm_kernel.proofs.Picking.{pick_within, pick_somebody}

pub run_keeps : RunKeeps
run_keeps k h ne = runs_keeps k (pick k) h (pick_within k h ne)

-- a rescheduling, where the run has ended
pub rescheduled_after_end : (k : KernelState) → k.ended ≢ 0 → rescheduled k ≡ k
rescheduled_after_end k ne = rw (ne_eqb k.ended 0 ne) refl

-- a rescheduling, where nobody is picked
pub rescheduled_to_nobody : (k : KernelState) → pick k ≡ nobody → rescheduled k ≡ k
rescheduled_to_nobody k e = elim (cases_eq k.ended 0) [
  | inl goes ↦ rw (eq-eqb k.ended 0 goes, eq-eqb (pick k) nobody e) refl
  | inr ne ↦ rescheduled_after_end k ne
]

-- a rescheduling, where somebody is picked and the run goes on
pub rescheduled_to_somebody : (k : KernelState) → k.ended ≡ 0 → pick k ≢ nobody → rescheduled k ≡ run_task k (pick k)
rescheduled_to_somebody k goes ne = rw (eq-eqb k.ended 0 goes, ne_eqb (pick k) nobody ne) refl

-- what holds of a kernel with the same running task or with the picked one
pub rescheduled_by : (P : KernelState → Type 0) (k : KernelState) → P k → (k.ended ≡ 0 → pick k ≢ nobody → P (run_task k (pick k))) → P (rescheduled k)
rescheduled_by P k same runs = elim (cases_eq k.ended 0) [
  | inl goes ↦ elim (cases_eq (pick k) nobody) [
    | inl e ↦ subst P (sym (rescheduled_to_nobody k e)) same
    | inr ne ↦ subst P (sym (rescheduled_to_somebody k goes ne)) (runs goes ne)
  ]
  | inr ne ↦ subst P (sym (rescheduled_after_end k ne)) same
]

pub rescheduling_keeps : ReschedulingKeeps
rescheduling_keeps k h = rescheduled_by IsKernel k h (λ _ ne. run_keeps k h ne)

-- the running task can run
pub running_can_run : (k : KernelState) → IsKernel k → k.running ≢ nobody → CanRun k k.running
running_can_run k h ne = elim h.running [
  | inl none ↦ absurd (ne none)
  | inr there ↦ inr there
]

-- where nobody is picked, nobody runs
pub nobody_runs : (k : KernelState) → IsKernel k → pick k ≡ nobody → k.running ≡ nobody
nobody_runs k h e = elim (cases_eq k.running nobody) [
  | inl none ↦ none
  | inr ne ↦ absurd (pick_somebody k k.running h (running_can_run k h ne) e)
]

pub runs_the_pick : RunsThePick
runs_the_pick k h goes = elim (cases_eq (pick k) nobody) [
  | inl e ↦ ap (λ (s : KernelState). s.running) (rescheduled_to_nobody k e) ∙ nobody_runs k h e ∙ sym e
  | inr ne ↦ ap (λ (s : KernelState). s.running) (rescheduled_to_somebody k goes ne)
]

-- after the end nobody runs
pub nobody_after_end : (k : KernelState) → k.running ≡ nobody → k.ended ≢ 0 → (rescheduled k).running ≡ nobody
nobody_after_end k idle ne = ap (λ (s : KernelState). s.running) (rescheduled_after_end k ne) ∙ idle

pub runs_a_task : RunsATask
runs_a_task k h = elim (cases_eq k.ended 0) [
  | inl goes ↦ elim (cases_eq (pick k) nobody) [
    | inl e ↦ inl (runs_the_pick k h goes ∙ e)
    | inr ne ↦ inr (omega (arith, runs_the_pick k h goes, pick_within k h ne, h.states))
  ]
  | inr ne ↦ subst (λ (n : ℕ). (n ≡ nobody) ⊎ (n < length k.spec.tasks)) (sym (ap (λ (s : KernelState). s.running) (rescheduled_after_end k ne)))
      (elim h.running [
        | inl none ↦ inl none
        | inr there ↦ inr (omega (arith, slice_get_within k.states k.running Running there, h.states))
      ])
]

pub rescheduling_same_rest : ReschedulingSameRest
rescheduling_same_rest k = rescheduled_by (SameButStates k) k
    (record { spec = refl; events = refl; awaited = refl; ceilings = refl; alarms = refl; boxes = refl; ports = refl; ended = refl })
    (λ _ _. record { spec = refl; events = refl; awaited = refl; ceilings = refl; alarms = refl; boxes = refl; ports = refl; ended = refl })

pub goes_on_running : GoesOnRunning
goes_on_running k h ne none = elim (cases_eq k.ended 0) [
  | inl goes ↦ pick_somebody k k.running h (running_can_run k h ne) (sym (runs_the_pick k h goes) ∙ none)
  | inr over ↦ ne (sym (ap (λ (s : KernelState). s.running) (rescheduled_after_end k over)) ∙ none)
]

-- a step that may change the tasks' states and events alone
pub record TasksAlone (old new : KernelState) : Type 0 where
  pub spec : new.spec ≡ old.spec
  pub ceilings : new.ceilings ≡ old.ceilings
  pub alarms : new.alarms ≡ old.alarms
  pub boxes : new.boxes ≡ old.boxes
  pub ports : new.ports ≡ old.ports
  pub running : new.running ≡ old.running
  pub ended : new.ended ≡ old.ended
  pub number : length new.states ≡ length old.states

tasks_alone : (k : KernelState) (states : List TaskState) (events : List ℕ) → length states ≡ length k.states →
    TasksAlone k (record k { states = states; events = events })
tasks_alone k states events number = record {
  spec = refl;
  ceilings = refl;
  alarms = refl;
  boxes = refl;
  ports = refl;
  running = refl;
  ended = refl;
  number = number;
}

pub same_tasks_alone : (k : KernelState) → TasksAlone k k
same_tasks_alone k = tasks_alone k k.states k.events refl

pub activated_tasks_alone : (k : KernelState) (task : ℕ) → TasksAlone k (activated k task)
activated_tasks_alone k task = go (activation (slice_get k.states task) == E_OK)
  where
    go : (b : Bool) → TasksAlone k (if b then record k { states = slice_set k.states task Ready; events = slice_set k.events task 0 } else k)
    go true = tasks_alone k (slice_set k.states task Ready) (slice_set k.events task 0) (length-set k.states task Ready)
    go false = same_tasks_alone k

pub events_set_tasks_alone : (k : KernelState) (task mask : ℕ) → TasksAlone k (events_set k task mask)
events_set_tasks_alone k task mask = go (event_status k task == E_OK)
  where
    wakes : (found : Option TaskState) (set : ℕ) → length (woken found set k.states task) ≡ length k.states
    wakes None set = refl
    wakes (Some Suspended) set = refl
    wakes (Some Ready) set = refl
    wakes (Some Running) set = refl
    wakes (Some Waiting) set = wake (set == 0)
      where
        wake : (b : Bool) → length (if b then k.states else slice_set k.states task Ready) ≡ length k.states
        wake true = refl
        wake false = length-set k.states task Ready

    go : (b : Bool) → TasksAlone k (if b then with_events k task mask else k)
    go true = tasks_alone k _ _ (wakes (slice_get k.states task) (bit_and (bit_or (events_of k task) mask) (awaited_by k task)))
    go false = same_tasks_alone k

pub acted_tasks_alone : (k : KernelState) (action : Action) → TasksAlone k (acted k action)
acted_tasks_alone k Nothing = same_tasks_alone k
acted_tasks_alone k Tick = same_tasks_alone k
acted_tasks_alone k (Activate task) = activated_tasks_alone k task
acted_tasks_alone k (Event task mask) = events_set_tasks_alone k task mask

pub then_tasks_alone : (a b c : KernelState) → TasksAlone a b → TasksAlone b c → TasksAlone a c
then_tasks_alone a b c p q = record {
  spec = q.spec ∙ p.spec;
  ceilings = q.ceilings ∙ p.ceilings;
  alarms = q.alarms ∙ p.alarms;
  boxes = q.boxes ∙ p.boxes;
  ports = q.ports ∙ p.ports;
  running = q.running ∙ p.running;
  ended = q.ended ∙ p.ended;
  number = q.number ∙ p.number;
}

pub all_acted_tasks_alone : (actions : List Action) (k : KernelState) → TasksAlone k (fold acted k actions)
all_acted_tasks_alone [] k = same_tasks_alone k
all_acted_tasks_alone (a ∷ rest) k = then_tasks_alone k (acted k a) _ (acted_tasks_alone k a) (all_acted_tasks_alone rest (acted k a))

-- a step that may change the tasks and the alarms alone
pub record AlarmsToo (old new : KernelState) : Type 0 where
  pub spec : new.spec ≡ old.spec
  pub ceilings : new.ceilings ≡ old.ceilings
  pub boxes : new.boxes ≡ old.boxes
  pub ports : new.ports ≡ old.ports
  pub running : new.running ≡ old.running
  pub ended : new.ended ≡ old.ended

alarms_too : (a b : KernelState) → TasksAlone a b → AlarmsToo a b
alarms_too a b p =
    record { spec = p.spec; ceilings = p.ceilings; boxes = p.boxes; ports = p.ports; running = p.running; ended = p.ended }

then_alarms_too : (a b c : KernelState) → AlarmsToo a b → AlarmsToo b c → AlarmsToo a c
then_alarms_too a b c p q = record {
  spec = q.spec ∙ p.spec;
  ceilings = q.ceilings ∙ p.ceilings;
  boxes = q.boxes ∙ p.boxes;
  ports = q.ports ∙ p.ports;
  running = q.running ∙ p.running;
  ended = q.ended ∙ p.ended;
}

pub tick_alarms_too : (k : KernelState) → AlarmsToo k (tick k)
tick_alarms_too k =
    let counted : KernelState = record k { alarms = ticked k.alarms } in
    then_alarms_too k counted (tick k)
    (record { spec = refl; ceilings = refl; boxes = refl; ports = refl; running = refl; ended = refl })
    (alarms_too counted (tick k) (all_acted_tasks_alone (due_actions (due k.alarms) k.spec.alarms) counted))

pub performed_alarms_too : (k : KernelState) (action : Action) → AlarmsToo k (performed k action)
performed_alarms_too k Nothing = alarms_too k k (same_tasks_alone k)
performed_alarms_too k Tick = tick_alarms_too k
performed_alarms_too k (Activate task) = alarms_too k _ (activated_tasks_alone k task)
performed_alarms_too k (Event task mask) = alarms_too k _ (events_set_tasks_alone k task mask)

pub all_performed_alarms_too : (actions : List Action) (k : KernelState) → AlarmsToo k (fold performed k actions)
all_performed_alarms_too [] k = alarms_too k k (same_tasks_alone k)
all_performed_alarms_too (a ∷ rest) k =
    then_alarms_too k (performed k a) _ (performed_alarms_too k a) (all_performed_alarms_too rest (performed k a))

pub arrival_latches : ArrivalLatches
arrival_latches k mask ports =
    let whole : AlarmsToo (record k { ports = ports }) (arrived k mask ports) =
    all_performed_alarms_too (raised_actions mask 0 k.spec.lines) (record k { ports = ports }) in
    record {
      spec = whole.spec;
      ceilings = whole.ceilings;
      boxes = whole.boxes;
      running = whole.running;
      ended = whole.ended;
      ports = whole.ports;
    }

pub arrival_goes_on : ArrivalGoesOn
arrival_goes_on k mask ports h ne =
    goes_on_running (arrived k mask ports) (arrived_keeps k mask ports h)
    (λ e. ne (sym (arrival_latches k mask ports).running ∙ e))

pub stop_ends : StopEnds
stop_ends k fault h ne =
    let there : k.running < length k.states = elim h.running [
      | inl none ↦ absurd (ne none)
      | inr there ↦ slice_get_within k.states k.running Running there
    ] in
    (refl, ended fault, rw (ne_eqb k.running nobody ne) (slice_get_set_same k.states k.running Ready there))
  where
    ended : (f : Bool) → ((stopped k f).ended ≡ 1) ⊎ ((stopped k f).ended ≡ 2)
    ended true = inl refl
    ended false = inr refl
