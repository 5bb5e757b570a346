-- What every call keeps and leaves.
use Rattle.std.proofs.Common.{◌≡◌, ◌≢◌, ℕ, ◌<◌, ◌∷◌, [], Bool, true, false, List, length, take, drop, refl, sym, ◌∙◌, subst, arith, inl, inr, Option, Some, None, slice_get, slice_set, slice_index, length-take, length-drop, if◌then◌else◌, ◌==◌, bit_and}
use Rattle.std.proofs.lemmas.Bool.{cases_eq, eqb-true, eqb-false, ne_eqb}
use Rattle.tm_marker.specs.declared.entries.Kind.{Kind}
use Rattle.tm_marker.specs.declared.entries.Kind.TheVariants.{Waits, Ends, Shutdown}
use Rattle.tm_marker.specs.declared.service.Service.{Service}
use Rattle.tm_marker.specs.declared.service.Service.TheVariants.{ActivateTask, TerminateTask, ChainTask, GetTaskId, GetTaskState, GetResource, ReleaseResource, SetEvent, ClearEvent, GetEvent, WaitEvent, GetAlarm, SetRelAlarm, SetAbsAlarm, CancelAlarm, Send, Receive, ReadInput, WriteOutput, ShutdownOs}
use Rattle.tm_marker.specs.Service.{service_number, service_of}
use Rattle.tm_services.specs.declared.status.TheConstants.{E_OK, E_OS_ID, E_OS_NOFUNC}
use Rattle.tm_services.specs.Ceilings.{get_status, release_status}
use Rattle.tm_services.specs.Alarms.{left_status, left_ticks, set_rel_status, set_abs_status, cancel_status}
use Rattle.tm_kernel.specs.declared.kernel.Need.TheVariants.{Goes, Leaves}
use Rattle.tm_kernel.specs.declared.kernel.TaskState.{TaskState}
use Rattle.tm_kernel.specs.declared.kernel.TaskState.TheVariants.{Waiting}
use Rattle.tm_kernel.specs.Mailboxes.{Message, send_status}
use Rattle.tm_kernel.specs.State.{KernelState, IsKernel, IsRunning, nobody, state_number, stopped, events_of}
use Rattle.tm_kernel.specs.Service.{Answered, answer, answer_by, served, unserved, checked, goes_on, leaves, tells, tells_words, writes, activate_task, terminate_task, chain_task, get_task_id, get_task_state, get_resource, release_resource, set_event, clear_event, get_event, wait_event, get_alarm, set_rel_alarm, set_abs_alarm, cancel_alarm, send, receive, read_input, write_output, shutdown_os, activation, activated, suspended, holding_status, chaining, event_status, own_event_status, without_events, wait_status, waiting, sent, port_status}
use Rattle.tm_kernel.specs.Schedule.{pick, rescheduled}
use Rattle.tm_kernel.specs.Laws.{CanRun, CallKeeps, CallSameRest, CallNamesService, CallGoesOn, CallLeaves, RefusalChangesNothing, SameInCall, LeavesBy}
use Rattle.tm_marker.proofs.Services.{number_of_service}
use Rattle.tm_kernel.proofs.Keeping.{activated_keeps, suspended_keeps, stopped_keeps, waiting_keeps, events_set_keeps, without_events_keeps, got_keeps, released_keeps, set_rel_alarm_keeps, set_abs_alarm_keeps, cancelled_alarm_keeps, sent_keeps, taken_keeps_boxes, slice_get_set_same}
use Rattle.tm_kernel.proofs.Picking.{pick_greatest}
use Rattle.tm_kernel.proofs.Rescheduling.{TasksAlone, activated_tasks_alone, events_set_tasks_alone, goes_on_running, runs_the_pick, nobody_after_end}

-- what holds where a test passes and where it fails
pub if_by : {X : Type 0} (P : X → Type 0) (b : Bool) (x y : X) → P x → P y → P (if b then x else y)
if_by P true x y p q = p
if_by P false x y p q = q

-- what holds of the answer of each service
pub record EachService (P : Answered → Type 0) (k : KernelState) (caller service : ℕ) (args : List ℕ) : Type 0 where
  pub of_activate_task : P (activate_task k (slice_index args 0))
  pub of_terminate_task : P (terminate_task k caller)
  pub of_chain_task : P (chain_task k caller (slice_index args 0))
  pub of_get_task_id : P (get_task_id k caller)
  pub of_get_task_state : P (get_task_state k (slice_get k.states (slice_index args 0)))
  pub of_get_resource : P (get_resource k caller (slice_index args 0))
  pub of_release_resource : P (release_resource k caller (slice_index args 0))
  pub of_set_event : P (set_event k (slice_index args 0) (slice_index args 1))
  pub of_clear_event : P (clear_event k caller (slice_index args 0))
  pub of_get_event : P (get_event k (slice_index args 0))
  pub of_wait_event : P (wait_event k caller (slice_index args 0))
  pub of_get_alarm : P (get_alarm k (slice_index args 0))
  pub of_set_rel_alarm : P (set_rel_alarm k (slice_index args 0) (slice_index args 1) (slice_index args 2))
  pub of_set_abs_alarm : P (set_abs_alarm k (slice_index args 0) (slice_index args 1) (slice_index args 2))
  pub of_cancel_alarm : P (cancel_alarm k (slice_index args 0))
  pub of_send : P (send k (slice_index args 0) (take 4 (drop 1 args)))
  pub of_receive : P (receive k (slice_index args 0) (slice_get k.boxes (slice_index args 0)))
  pub of_read_input : P (read_input k (slice_index args 0))
  pub of_write_output : P (write_output k caller (slice_index args 0) (slice_index args 1))
  pub of_shutdown_os : P (shutdown_os k)
  pub other : P (unserved k service)

-- what holds of the answer of each service holds of every answer
pub answer_where : (P : Answered → Type 0) (k : KernelState) (caller service : ℕ) (args : List ℕ) → EachService P k caller service args →
    P (answer k caller service args)
answer_where P k caller service args each = go (service_of service)
  where
    go : (found : Option Service) → P (answer_by k caller service args found)
    go None = each.other
    go (Some ActivateTask) = each.of_activate_task
    go (Some TerminateTask) = each.of_terminate_task
    go (Some ChainTask) = each.of_chain_task
    go (Some GetTaskId) = each.of_get_task_id
    go (Some GetTaskState) = each.of_get_task_state
    go (Some GetResource) = each.of_get_resource
    go (Some ReleaseResource) = each.of_release_resource
    go (Some SetEvent) = each.of_set_event
    go (Some ClearEvent) = each.of_clear_event
    go (Some GetEvent) = each.of_get_event
    go (Some WaitEvent) = each.of_wait_event
    go (Some GetAlarm) = each.of_get_alarm
    go (Some SetRelAlarm) = each.of_set_rel_alarm
    go (Some SetAbsAlarm) = each.of_set_abs_alarm
    go (Some CancelAlarm) = each.of_cancel_alarm
    go (Some Send) = each.of_send
    go (Some Receive) = each.of_receive
    go (Some ReadInput) = each.of_read_input
    go (Some WriteOutput) = each.of_write_output
    go (Some ShutdownOs) = each.of_shutdown_os

-- what holds of a call that is done and of a refused one holds of every checked call
pub checked_by : (P : Answered → Type 0) (k : KernelState) (service : Service) (status : ℕ) (done : Answered) → (status ≡ E_OK → P done) →
    (status ≢ E_OK → P (goes_on k service status)) → P (checked k service status done)
checked_by P k service status done good bad = go (status == E_OK) refl
  where
    go : (b : Bool) → (status == E_OK) ≡ b → P (if b then done else goes_on k service status)
    go true is = good (eqb-true status E_OK is)
    go false is = bad (eqb-false status E_OK is)

-- by whether the caller waits, goes on, or is refused
pub wait_event_by : (P : Answered → Type 0) (k : KernelState) (caller mask : ℕ) → P (leaves (waiting k caller mask) WaitEvent Waits) →
    P (goes_on k WaitEvent E_OK) → ((status : ℕ) → status ≢ E_OK → P (goes_on k WaitEvent status)) → P (wait_event k caller mask)
wait_event_by P k caller mask waits goes refused =
    checked_by P k WaitEvent (wait_status k caller mask)
    (if bit_and (events_of k caller) mask == 0 then leaves (waiting k caller mask) WaitEvent Waits else goes_on k WaitEvent E_OK)
    (λ _. if_by P (bit_and (events_of k caller) mask == 0) (leaves (waiting k caller mask) WaitEvent Waits) (goes_on k WaitEvent E_OK) waits goes)
    (refused (wait_status k caller mask))

-- by the state of a task
pub get_task_state_by : (P : Answered → Type 0) (k : KernelState) (found : Option TaskState) → P (goes_on k GetTaskState E_OS_ID) →
    ((word : ℕ) → P (tells k GetTaskState word)) → P (get_task_state k found)
get_task_state_by P k None none some = none
get_task_state_by P k (Some state) none some = some (state_number state)

-- by the messages of a box
pub receive_by : (P : Answered → Type 0) (k : KernelState) (box : ℕ) (found : Option (List Message)) →
    P (goes_on k Receive E_OS_ID) → P (goes_on k Receive E_OS_NOFUNC) →
    ((first : Message) (rest : List Message) → found ≡ Some (first ∷ rest) →
    P (tells_words (record k { boxes = slice_set k.boxes box rest }) Receive first)) →
    P (receive k box found)
receive_by P k box None none empty some = none
receive_by P k box (Some []) none empty some = empty
receive_by P k box (Some (first ∷ rest)) none empty some = some first rest refl

checked_names : (k : KernelState) (service : Service) (status : ℕ) (done : Answered) → done.entry.service ≡ service_number service →
    (checked k service status done).entry.service ≡ service_number service
checked_names k service status done same =
    checked_by (λ a. a.entry.service ≡ service_number service) k service status done (λ _. same) (λ _. refl)

-- the answer of a service has its number
served_names : (k : KernelState) (task : ℕ) (args : List ℕ) (service : Service) → (served k task args service).entry.service ≡ service_number service
served_names k task args ActivateTask = refl
served_names k task args TerminateTask = checked_names k TerminateTask _ _ refl
served_names k task args ChainTask = checked_names k ChainTask _ _ refl
served_names k task args GetTaskId = refl
served_names k task args GetTaskState = get_task_state_by (λ a. a.entry.service ≡ service_number GetTaskState) k (slice_get k.states (slice_index args 0)) refl (λ _. refl)
served_names k task args GetResource = refl
served_names k task args ReleaseResource = refl
served_names k task args SetEvent = refl
served_names k task args ClearEvent = checked_names k ClearEvent _ _ refl
served_names k task args GetEvent = checked_names k GetEvent _ _ refl
served_names k task args WaitEvent = wait_event_by (λ a. a.entry.service ≡ service_number WaitEvent) k task (slice_index args 0) refl refl (λ _ _. refl)
served_names k task args GetAlarm = checked_names k GetAlarm _ _ refl
served_names k task args SetRelAlarm = refl
served_names k task args SetAbsAlarm = refl
served_names k task args CancelAlarm = refl
served_names k task args Send = checked_names k Send _ _ refl
served_names k task args Receive = receive_by (λ a. a.entry.service ≡ service_number Receive) k (slice_index args 0) (slice_get k.boxes (slice_index args 0)) refl refl (λ _ _ _. refl)
served_names k task args ReadInput = checked_names k ReadInput _ _ refl
served_names k task args WriteOutput = checked_names k WriteOutput _ _ refl
served_names k task args ShutdownOs = refl

pub call_names_service : CallNamesService
call_names_service k task service args = go (service_of service) refl
  where
    go : (found : Option Service) → service_of service ≡ found → (answer_by k task service args found).entry.service ≡ service
    go None is = refl
    go (Some s) is = served_names k task args s ∙ number_of_service service s is

length-message : (args : List ℕ) → length args ≡ 6 → length (take 4 (drop 1 args)) ≡ 4
length-message args six = omega (arith, length-take 4 (drop 1 args), length-drop 1 args)

pub call_keeps : CallKeeps
call_keeps k task service args six h runs =
    let P : Answered → Type 0 = λ a. IsKernel a.kernel in
    let a : ℕ = slice_index args 0 in
    let within : task < 16 = omega (arith, runs.there, h.states, h.spec.few_tasks) in
    answer_where P k task service args (record {
      of_activate_task = activated_keeps k a h;
      of_terminate_task = checked_by P k TerminateTask (holding_status k task) (leaves (suspended k task) TerminateTask Ends) (λ _. suspended_keeps k task h runs.runs) (λ _. h);
      of_chain_task = checked_by P k ChainTask (chaining k task a) (leaves (activated (suspended k task) a) ChainTask Ends) (λ _. activated_keeps (suspended k task) a (suspended_keeps k task h runs.runs)) (λ _. h);
      of_get_task_id = h;
      of_get_task_state = get_task_state_by P k (slice_get k.states a) h (λ _. h);
      of_get_resource = got_keeps k task a h within;
      of_release_resource = released_keeps k task a h within;
      of_set_event = events_set_keeps k a (slice_index args 1) h;
      of_clear_event = checked_by P k ClearEvent (own_event_status k task) (goes_on (without_events k task a) ClearEvent E_OK) (λ _. without_events_keeps k task a h) (λ _. h);
      of_get_event = checked_by P k GetEvent (event_status k a) (tells k GetEvent (events_of k a)) (λ _. h) (λ _. h);
      of_wait_event = wait_event_by P k task a (waiting_keeps k task a h runs.runs) h (λ _ _. h);
      of_get_alarm = checked_by P k GetAlarm (left_status k.alarms a) (tells k GetAlarm (left_ticks k.alarms a)) (λ _. h) (λ _. h);
      of_set_rel_alarm = set_rel_alarm_keeps k a (slice_index args 1) (slice_index args 2) h;
      of_set_abs_alarm = set_abs_alarm_keeps k a (slice_index args 1) (slice_index args 2) h;
      of_cancel_alarm = cancelled_alarm_keeps k a h;
      of_send = checked_by P k Send (send_status k.spec.boxes a (slice_get k.boxes a)) (goes_on (sent k a (take 4 (drop 1 args))) Send E_OK) (sent_keeps k a (take 4 (drop 1 args)) h (length-message args six)) (λ _. h);
      of_receive = receive_by P k a (slice_get k.boxes a) h h (λ first rest there. taken_keeps_boxes k a first rest h there);
      of_read_input = checked_by P k ReadInput (port_status a) (tells k ReadInput (slice_index k.ports a)) (λ _. h) (λ _. h);
      of_write_output = checked_by P k WriteOutput (port_status a) (writes k WriteOutput (record { task = task; port = a; value = slice_index args 1 })) (λ _. h) (λ _. h);
      of_shutdown_os = stopped_keeps k false h;
      other = h;
    })

same_in : (k new : KernelState) → TasksAlone k new → SameInCall k new
same_in k new alone = record { spec = alone.spec; ports = alone.ports }

-- an activation after the caller's end
pub chained_tasks_alone : (k : KernelState) (caller task : ℕ) → TasksAlone (suspended k caller) (activated (suspended k caller) task)
chained_tasks_alone k caller task = activated_tasks_alone (suspended k caller) task

pub call_same_rest : CallSameRest
call_same_rest k task service args =
    let P : Answered → Type 0 = λ a. SameInCall k a.kernel in
    let a : ℕ = slice_index args 0 in
    let same : SameInCall k k = record { spec = refl; ports = refl } in
    answer_where P k task service args (record {
      of_activate_task = same_in k _ (activated_tasks_alone k a);
      of_terminate_task = checked_by P k TerminateTask (holding_status k task) (leaves (suspended k task) TerminateTask Ends) (λ _. record { spec = refl; ports = refl }) (λ _. same);
      of_chain_task = checked_by P k ChainTask (chaining k task a) (leaves (activated (suspended k task) a) ChainTask Ends) (λ _. record { spec = (chained_tasks_alone k task a).spec; ports = (chained_tasks_alone k task a).ports }) (λ _. same);
      of_get_task_id = record { spec = refl; ports = refl };
      of_get_task_state = get_task_state_by P k (slice_get k.states a) same (λ _. same);
      of_get_resource = record { spec = refl; ports = refl };
      of_release_resource = record { spec = refl; ports = refl };
      of_set_event = same_in k _ (events_set_tasks_alone k a (slice_index args 1));
      of_clear_event = checked_by P k ClearEvent (own_event_status k task) (goes_on (without_events k task a) ClearEvent E_OK) (λ _. record { spec = refl; ports = refl }) (λ _. same);
      of_get_event = checked_by P k GetEvent (event_status k a) (tells k GetEvent (events_of k a)) (λ _. same) (λ _. same);
      of_wait_event = wait_event_by P k task a (record { spec = refl; ports = refl }) same (λ _ _. same);
      of_get_alarm = checked_by P k GetAlarm (left_status k.alarms a) (tells k GetAlarm (left_ticks k.alarms a)) (λ _. same) (λ _. same);
      of_set_rel_alarm = record { spec = refl; ports = refl };
      of_set_abs_alarm = record { spec = refl; ports = refl };
      of_cancel_alarm = record { spec = refl; ports = refl };
      of_send = checked_by P k Send (send_status k.spec.boxes a (slice_get k.boxes a)) (goes_on (sent k a (take 4 (drop 1 args))) Send E_OK) (λ _. record { spec = refl; ports = refl }) (λ _. same);
      of_receive = receive_by P k a (slice_get k.boxes a) same same (λ _ _ _. record { spec = refl; ports = refl });
      of_read_input = checked_by P k ReadInput (port_status a) (tells k ReadInput (slice_index k.ports a)) (λ _. same) (λ _. same);
      of_write_output = checked_by P k WriteOutput (port_status a) (writes k WriteOutput (record { task = task; port = a; value = slice_index args 1 })) (λ _. same) (λ _. same);
      of_shutdown_os = record { spec = refl; ports = refl };
      other = record { spec = refl; ports = refl };
    })

-- a step by which the running task, the end of the run and the number of tasks stay
pub record Stays (k new : KernelState) : Type 0 where
  pub running : new.running ≡ k.running
  pub ended : new.ended ≡ k.ended
  pub number : length new.states ≡ length k.states

stays_in : (k new : KernelState) → TasksAlone k new → Stays k new
stays_in k new alone = record { running = alone.running; ended = alone.ended; number = alone.number }

call_stays : (k : KernelState) (task service : ℕ) (args : List ℕ) → (answer k task service args).need ≡ Goes →
    Stays k (answer k task service args).kernel
call_stays k task service args =
    let P : Answered → Type 0 = λ a. a.need ≡ Goes → Stays k a.kernel in
    let a : ℕ = slice_index args 0 in
    let same : Goes ≡ Goes → Stays k k = λ _. record { running = refl; ended = refl; number = refl } in
    answer_where P k task service args (record {
      of_activate_task = λ _. stays_in k _ (activated_tasks_alone k a);
      of_terminate_task = checked_by P k TerminateTask (holding_status k task) (leaves (suspended k task) TerminateTask Ends) (λ _ e. cc) (λ _. same);
      of_chain_task = checked_by P k ChainTask (chaining k task a) (leaves (activated (suspended k task) a) ChainTask Ends) (λ _ e. cc) (λ _. same);
      of_get_task_id = λ _. record { running = refl; ended = refl; number = refl };
      of_get_task_state = get_task_state_by P k (slice_get k.states a) same (λ _. same);
      of_get_resource = λ _. record { running = refl; ended = refl; number = refl };
      of_release_resource = λ _. record { running = refl; ended = refl; number = refl };
      of_set_event = λ _. stays_in k _ (events_set_tasks_alone k a (slice_index args 1));
      of_clear_event = checked_by P k ClearEvent (own_event_status k task) (goes_on (without_events k task a) ClearEvent E_OK) (λ _ _. record { running = refl; ended = refl; number = refl }) (λ _. same);
      of_get_event = checked_by P k GetEvent (event_status k a) (tells k GetEvent (events_of k a)) (λ _. same) (λ _. same);
      of_wait_event = wait_event_by P k task a (λ e. cc) same (λ _ _. same);
      of_get_alarm = checked_by P k GetAlarm (left_status k.alarms a) (tells k GetAlarm (left_ticks k.alarms a)) (λ _. same) (λ _. same);
      of_set_rel_alarm = λ _. record { running = refl; ended = refl; number = refl };
      of_set_abs_alarm = λ _. record { running = refl; ended = refl; number = refl };
      of_cancel_alarm = λ _. record { running = refl; ended = refl; number = refl };
      of_send = checked_by P k Send (send_status k.spec.boxes a (slice_get k.boxes a)) (goes_on (sent k a (take 4 (drop 1 args))) Send E_OK) (λ _ _. record { running = refl; ended = refl; number = refl }) (λ _. same);
      of_receive = receive_by P k a (slice_get k.boxes a) same same (λ _ _ _ _. record { running = refl; ended = refl; number = refl });
      of_read_input = checked_by P k ReadInput (port_status a) (tells k ReadInput (slice_index k.ports a)) (λ _. same) (λ _. same);
      of_write_output = checked_by P k WriteOutput (port_status a) (writes k WriteOutput (record { task = task; port = a; value = slice_index args 1 })) (λ _. same) (λ _. same);
      of_shutdown_os = λ e. cc;
      other = λ _. record { running = refl; ended = refl; number = refl };
    })

-- a task that there is is not nobody
pub somebody : (k : KernelState) (task : ℕ) → IsKernel k → IsRunning k task → task ≢ nobody
somebody k task h runs e = omega (arith, runs.there, h.states, h.spec.few_tasks)

pub call_goes_on : CallGoesOn
call_goes_on k task service args six h runs goes =
    let new : KernelState = (answer k task service args).kernel in
    let stays : Stays k new = call_stays k task service args goes in
    let sound : IsKernel new = call_keeps k task service args six h runs in
    let still : new.running ≡ task = stays.running ∙ runs.runs in
    record {
      running = record { runs = still; there = omega (arith, stays.number, runs.there) };
      ended = stays.ended;
      somebody = goes_on_running new sound (λ e. somebody k task h runs (sym still ∙ e));
    }

-- where the running task waits, it is not the next to run
waits_apart : (k : KernelState) (task mask : ℕ) → IsKernel k → IsRunning k task → (rescheduled (waiting k task mask)).running ≢ task
waits_apart k task mask h runs next =
    let new : KernelState = waiting k task mask in
    let sound : IsKernel new = waiting_keeps k task mask h runs.runs in
    elim (cases_eq k.ended 0) [
      | inl goes ↦
          let is : pick new ≡ task = sym (runs_the_pick new sound goes) ∙ next in
          let can : CanRun new task = subst (CanRun new) is (pick_greatest new sound (λ e. somebody k task h runs (sym is ∙ e))).can_run in
          let state : slice_get new.states task ≡ Some Waiting = slice_get_set_same k.states task Waiting runs.there in
          elim can [
            | inl ready ↦ cc
            | inr running ↦ cc
          ]
      | inr over ↦ somebody k task h runs (sym next ∙ nobody_after_end new refl over)
    ]

pub call_leaves : CallLeaves
call_leaves k task service args kind six h runs =
    let P : Answered → Type 0 = λ a. a.need ≡ Leaves kind → (a.kernel.running ≡ nobody) × LeavesBy kind k task a.kernel in
    let a : ℕ = slice_index args 0 in
    let by : (leaving : Kind) (new : KernelState) → new.running ≡ nobody → LeavesBy leaving k task new → Leaves leaving ≡ Leaves kind →
    (new.running ≡ nobody) × LeavesBy kind k task new =
    λ leaving new none left e. (none, subst (λ (x : Kind). LeavesBy x k task new) (same_kind leaving kind e) left) in
    answer_where P k task service args (record {
      of_activate_task = λ e. cc;
      of_terminate_task = checked_by P k TerminateTask (holding_status k task) (leaves (suspended k task) TerminateTask Ends) (λ _. by Ends (suspended k task) refl refl) (λ _ e. cc);
      of_chain_task = checked_by P k ChainTask (chaining k task a) (leaves (activated (suspended k task) a) ChainTask Ends) (λ _. by Ends (activated (suspended k task) a) (chained_tasks_alone k task a).running (chained_tasks_alone k task a).ended) (λ _ e. cc);
      of_get_task_id = λ e. cc;
      of_get_task_state = get_task_state_by P k (slice_get k.states a) (λ e. cc) (λ _ e. cc);
      of_get_resource = λ e. cc;
      of_release_resource = λ e. cc;
      of_set_event = λ e. cc;
      of_clear_event = checked_by P k ClearEvent (own_event_status k task) (goes_on (without_events k task a) ClearEvent E_OK) (λ _ e. cc) (λ _ e. cc);
      of_get_event = checked_by P k GetEvent (event_status k a) (tells k GetEvent (events_of k a)) (λ _ e. cc) (λ _ e. cc);
      of_wait_event = wait_event_by P k task a (by Waits (waiting k task a) refl (refl, waits_apart k task a h runs)) (λ e. cc) (λ _ _ e. cc);
      of_get_alarm = checked_by P k GetAlarm (left_status k.alarms a) (tells k GetAlarm (left_ticks k.alarms a)) (λ _ e. cc) (λ _ e. cc);
      of_set_rel_alarm = λ e. cc;
      of_set_abs_alarm = λ e. cc;
      of_cancel_alarm = λ e. cc;
      of_send = checked_by P k Send (send_status k.spec.boxes a (slice_get k.boxes a)) (goes_on (sent k a (take 4 (drop 1 args))) Send E_OK) (λ _ e. cc) (λ _ e. cc);
      of_receive = receive_by P k a (slice_get k.boxes a) (λ e. cc) (λ e. cc) (λ _ _ _ e. cc);
      of_read_input = checked_by P k ReadInput (port_status a) (tells k ReadInput (slice_index k.ports a)) (λ _ e. cc) (λ _ e. cc);
      of_write_output = checked_by P k WriteOutput (port_status a) (writes k WriteOutput (record { task = task; port = a; value = slice_index args 1 })) (λ _ e. cc) (λ _ e. cc);
      of_shutdown_os = by Shutdown (stopped k false) refl (refl, nobody_after_end (stopped k false) refl (λ e. omega arith));
      other = λ e. cc;
    })
  where
    same_kind : (x y : Kind) → Leaves x ≡ Leaves y → x ≡ y
    same_kind x y e = cc

-- a refused activation changes nothing
refused_activation : (k : KernelState) (task : ℕ) → activation (slice_get k.states task) ≢ E_OK → activated k task ≡ k
refused_activation k task ne = rw (ne_eqb (activation (slice_get k.states task)) E_OK ne) refl

pub refusal_changes_nothing : RefusalChangesNothing
refusal_changes_nothing k task service args =
    let P : Answered → Type 0 = λ a. a.entry.status ≢ E_OK → (a.kernel ≡ k) × (a.need ≡ Goes) in
    let a : ℕ = slice_index args 0 in
    let b : ℕ = slice_index args 1 in
    let c : ℕ = slice_index args 2 in
    let refused : (called : Service) (status : ℕ) → status ≢ E_OK → P (goes_on k called status) = λ _ _ _ _. (refl, refl) in
    answer_where P k task service args (record {
      of_activate_task = λ ne. (refused_activation k a ne, refl);
      of_terminate_task = checked_by P k TerminateTask (holding_status k task) (leaves (suspended k task) TerminateTask Ends) (λ _ ne. absurd (ne refl)) (refused TerminateTask (holding_status k task));
      of_chain_task = checked_by P k ChainTask (chaining k task a) (leaves (activated (suspended k task) a) ChainTask Ends) (λ _ ne. absurd (ne refl)) (refused ChainTask (chaining k task a));
      of_get_task_id = λ ne. absurd (ne refl);
      of_get_task_state = get_task_state_by P k (slice_get k.states a) (λ _. (refl, refl)) (λ _ ne. absurd (ne refl));
      of_get_resource = λ ne. (rw (ne_eqb (get_status k.ceilings task a) E_OK ne) refl, refl);
      of_release_resource = λ ne. (rw (ne_eqb (release_status k.ceilings task a) E_OK ne) refl, refl);
      of_set_event = λ ne. (rw (ne_eqb (event_status k a) E_OK ne) refl, refl);
      of_clear_event = checked_by P k ClearEvent (own_event_status k task) (goes_on (without_events k task a) ClearEvent E_OK) (λ _ ne. absurd (ne refl)) (refused ClearEvent (own_event_status k task));
      of_get_event = checked_by P k GetEvent (event_status k a) (tells k GetEvent (events_of k a)) (λ _ ne. absurd (ne refl)) (refused GetEvent (event_status k a));
      of_wait_event = wait_event_by P k task a (λ ne. absurd (ne refl)) (λ ne. absurd (ne refl)) (refused WaitEvent);
      of_get_alarm = checked_by P k GetAlarm (left_status k.alarms a) (tells k GetAlarm (left_ticks k.alarms a)) (λ _ ne. absurd (ne refl)) (refused GetAlarm (left_status k.alarms a));
      of_set_rel_alarm = λ ne. (rw (ne_eqb (set_rel_status k.alarms a b c) E_OK ne) refl, refl);
      of_set_abs_alarm = λ ne. (rw (ne_eqb (set_abs_status k.alarms a b c) E_OK ne) refl, refl);
      of_cancel_alarm = λ ne. (rw (ne_eqb (cancel_status k.alarms a) E_OK ne) refl, refl);
      of_send = checked_by P k Send (send_status k.spec.boxes a (slice_get k.boxes a)) (goes_on (sent k a (take 4 (drop 1 args))) Send E_OK) (λ _ ne. absurd (ne refl)) (refused Send (send_status k.spec.boxes a (slice_get k.boxes a)));
      of_receive = receive_by P k a (slice_get k.boxes a) (λ _. (refl, refl)) (λ _. (refl, refl)) (λ _ _ _ ne. absurd (ne refl));
      of_read_input = checked_by P k ReadInput (port_status a) (tells k ReadInput (slice_index k.ports a)) (λ _ ne. absurd (ne refl)) (refused ReadInput (port_status a));
      of_write_output = checked_by P k WriteOutput (port_status a) (writes k WriteOutput (record { task = task; port = a; value = slice_index args 1 })) (λ _ ne. absurd (ne refl)) (refused WriteOutput (port_status a));
      of_shutdown_os = λ ne. absurd (ne refl);
      other = λ _. (refl, refl);
    })
