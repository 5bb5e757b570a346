-- A kernel's numbers stay of 32 bits, and so are those that it answers.
use Rattle.std.proofs.Common.{◌≡◌, ℕ, ◌-◌, ◌<◌, ◌^◌, Bool, true, false, ◌==◌, if◌then◌else◌, List, [], ◌∷◌, All, length, take, drop, refl, sym, subst, arith, inl, inr, Option, Some, None, slice_get, slice_set, slice_index, unwrap_or, length-take, length-drop}
use Rattle.std.specs.Prelude.{fold, IfSome, ◌+◌}
use Rattle.std.proofs.lemmas.Bool.{cases_lt}
use Rattle.std.proofs.lemmas.Nat.{or_of_32, and_le_l}
use Rattle.std.proofs.lemmas.List.{get_or_past}
use Rattle.std.proofs.lemmas.List.Elements.{All-nil, All-cons, All-head, All-tail, All-push, All-set, All-take, All-drop, All-replicate}
use Rattle.std.proofs.lemmas.Option.{unwrap_or-slice_get, get_or_from_slice_get, slice_get_within}
use Rattle.tm_marker.specs.declared.entries.Kind.TheVariants.{Ends}
use Rattle.tm_marker.specs.declared.service.Service.{Service}
use Rattle.tm_marker.specs.declared.service.Service.TheVariants.{TerminateTask, ChainTask, GetTaskId, GetTaskState, ClearEvent, GetEvent, WaitEvent, GetAlarm, Send, Receive, ReadInput, WriteOutput}
use Rattle.tm_services.specs.declared.status.TheConstants.{E_OK}
use Rattle.tm_services.specs.Alarms.{AlarmView, Off, Armed, IsAlarm, ticks_of, left_status, left_ticks, due, ticked}
use Rattle.tm_kernel.specs.declared.kernel.TaskState.{TaskState}
use Rattle.tm_kernel.specs.declared.kernel.TaskState.TheVariants.{Suspended, Ready, Running, Waiting}
use Rattle.tm_kernel.specs.declared.spec.KernelSpec.{KernelSpec}
use Rattle.tm_kernel.specs.declared.spec.Action.{Action}
use Rattle.tm_kernel.specs.declared.spec.Action.TheVariants.{Nothing, Tick, Activate, Event}
use Rattle.tm_kernel.specs.Mailboxes.{Message, send_status}
use Rattle.tm_kernel.specs.State.{KernelState, IsKernel, nobody, events_of, state_number, booted, stopped}
use Rattle.tm_kernel.specs.Service.{Answered, answer, get_task_state, goes_on, leaves, tells, writes, activated, suspended, holding_status, chaining, event_status, own_event_status, with_events, events_set, without_events, waiting, sent, port_status}
use Rattle.tm_kernel.specs.Schedule.{pick, run_task, rescheduled, acted, due_actions, tick, performed, raised_actions, arrived}
use Rattle.tm_kernel.proofs.Answering.{if_by, answer_where, checked_by, receive_by, wait_event_by}
use Rattle.tm_dump.specs.Widths.{IsWord, FitsData}
use Rattle.tm_widths.specs.Numbers.{FitsAction, FitsMessage, FitsKernel}

-- an element of a list of words is one, and 0 past its end
pub element : {X : Type 0} (P : X → Type 0) (xs : List X) (i : ℕ) (x : X) → All P xs → slice_get xs i ≡ Some x → P x
element P xs i x all is = subst P (get_or_from_slice_get xs i x x is) (all i x (slice_get_within xs i x is))

pub index_word : (xs : List ℕ) (i : ℕ) → All IsWord xs → IsWord (slice_index xs i)
index_word xs i all = elim (cases_lt i (length xs)) [
  | inl within ↦ all i 0 within
  | inr past ↦ subst IsWord (sym (get_or_past xs i 0 past)) (let zero : 0 < 2 ^ 32 = omega arith in zero)
]

pub events_word : (k : KernelState) (task : ℕ) → FitsKernel k → IsWord (events_of k task)
events_word k task f = subst IsWord (sym (unwrap_or-slice_get k.events task 0)) (index_word k.events task f.events)

zero_word : IsWord 0
zero_word = omega arith

no_words : All IsWord (0 ∷ 0 ∷ 0 ∷ 0 ∷ [])
no_words = All-replicate IsWord 4 0 zero_word

one_word : (word : ℕ) → IsWord word → All IsWord (word ∷ 0 ∷ 0 ∷ 0 ∷ [])
one_word word fits = All-cons IsWord word (0 ∷ 0 ∷ 0 ∷ []) fits (All-replicate IsWord 3 0 zero_word)

-- the same numbers
pub same_fits : (k new : KernelState) → new.events ≡ k.events → new.boxes ≡ k.boxes → new.ports ≡ k.ports → new.spec ≡ k.spec → FitsKernel k → FitsKernel new
same_fits k new events boxes ports spec f = record {
  events = subst (All IsWord) (sym events) f.events;
  boxes = subst (λ (bs : List (List Message)). All (λ (ms : List Message). All FitsMessage ms) bs) (sym boxes) f.boxes;
  ports = subst (All IsWord) (sym ports) f.ports;
  lines = subst (λ (s : KernelSpec). All FitsAction s.lines) (sym spec) f.lines;
  alarms = subst (λ (s : KernelSpec). All FitsAction s.alarms) (sym spec) f.alarms;
}

events_fit : (k : KernelState) (events : List ℕ) → All IsWord events → FitsKernel k → FitsKernel (record k { events = events })
events_fit k events all f = record { events = all; boxes = f.boxes; ports = f.ports; lines = f.lines; alarms = f.alarms }

boxes_fit : (k : KernelState) (boxes : List (List Message)) → All (λ (ms : List Message). All FitsMessage ms) boxes → FitsKernel k →
    FitsKernel (record k { boxes = boxes })
boxes_fit k boxes all f = record { events = f.events; boxes = all; ports = f.ports; lines = f.lines; alarms = f.alarms }

-- what is done to a kernel
pub activated_fits : (k : KernelState) (task : ℕ) → FitsKernel k → FitsKernel (activated k task)
activated_fits k task f =
    if_by FitsKernel _ (record k { states = slice_set k.states task Ready; events = slice_set k.events task 0 }) k
    (record { events = All-set IsWord k.events task 0 zero_word f.events; boxes = f.boxes; ports = f.ports; lines = f.lines; alarms = f.alarms }) f

suspended_fits : (k : KernelState) (task : ℕ) → FitsKernel k → FitsKernel (suspended k task)
suspended_fits k task f = same_fits k (suspended k task) refl refl refl refl f

waiting_fits : (k : KernelState) (task mask : ℕ) → FitsKernel k → FitsKernel (waiting k task mask)
waiting_fits k task mask f = same_fits k (waiting k task mask) refl refl refl refl f

pub stopped_fits : (k : KernelState) (fault : Bool) → FitsKernel k → FitsKernel (stopped k fault)
stopped_fits k fault f = same_fits k (stopped k fault) refl refl refl refl f

with_events_fits : (k : KernelState) (task mask : ℕ) → IsWord mask → FitsKernel k → FitsKernel (with_events k task mask)
with_events_fits k task mask word f = record {
  events = All-set IsWord k.events task _ (or_of_32 (events_of k task) mask (events_word k task f) word) f.events;
  boxes = f.boxes;
  ports = f.ports;
  lines = f.lines;
  alarms = f.alarms;
}

pub events_set_fits : (k : KernelState) (task mask : ℕ) → IsWord mask → FitsKernel k → FitsKernel (events_set k task mask)
events_set_fits k task mask word f = if_by FitsKernel _ (with_events k task mask) k (with_events_fits k task mask word f) f

without_events_fits : (k : KernelState) (task mask : ℕ) → FitsKernel k → FitsKernel (without_events k task mask)
without_events_fits k task mask f =
    let less = and_le_l (events_of k task) (4294967295 - mask) in
    events_fit k _ (All-set IsWord k.events task _ (omega (arith, less, events_word k task f)) f.events) f

box_there : (k : KernelState) (box : ℕ) → FitsKernel k → All FitsMessage (unwrap_or (slice_get k.boxes box) [])
box_there k box f = elim (cases_lt box (length k.boxes)) [
  | inl within ↦ subst (All FitsMessage) (sym (unwrap_or-slice_get k.boxes box [])) (f.boxes box [] within)
  | inr past ↦ subst (All FitsMessage) (sym (unwrap_or-slice_get k.boxes box [])) (subst (All FitsMessage) (sym (get_or_past k.boxes box [] past)) (All-nil FitsMessage))
]

sent_fits : (k : KernelState) (box : ℕ) (message : Message) → FitsMessage message → FitsKernel k → FitsKernel (sent k box message)
sent_fits k box message m f =
    boxes_fit k _ (All-set (λ (ms : List Message). All FitsMessage ms) k.boxes box _ (All-push FitsMessage _ message (box_there k box f) m) f.boxes) f

-- an answer, with the kernel that it leaves and the output that it makes
pub record IsFit (a : Answered) : Type 0 where
  pub kernel : FitsKernel a.kernel
  pub entry : FitsData a.entry
  pub output : IfSome a.output (λ o. IsWord o.value)

plain : (k : KernelState) (service : Service) (status : ℕ) → FitsKernel k → IsFit (goes_on k service status)
plain k service status f = record { kernel = f; entry = record { four = refl; words = no_words }; output = tt }

telling : (k : KernelState) (service : Service) (word : ℕ) → IsWord word → FitsKernel k → IsFit (tells k service word)
telling k service word fits f = record { kernel = f; entry = record { four = refl; words = one_word word fits }; output = tt }

ticks_word : (o : Option AlarmView) → ((a : AlarmView) → o ≡ Some a → IsAlarm a) → IsWord (ticks_of o)
ticks_word None each = zero_word
ticks_word (Some Off) each = zero_word
ticks_word (Some (Armed left cycle)) each = let is = each (Armed left cycle) refl in omega (arith, is.1)

state_word : (s : TaskState) → IsWord (state_number s)
state_word Suspended = omega arith
state_word Ready = omega arith
state_word Running = omega arith
state_word Waiting = omega arith

found_state : (k : KernelState) (found : Option TaskState) → FitsKernel k → IsFit (get_task_state k found)
found_state k None f = plain k GetTaskState _ f
found_state k (Some state) f = telling k GetTaskState (state_number state) (state_word state) f

pub answers_fit : (k : KernelState) (caller service : ℕ) (args : List ℕ) → FitsKernel k → IsKernel k → IsWord caller → length args ≡ 6 → All IsWord args →
    IsFit (answer k caller service args)
answers_fit k caller service args f is id six words =
    let a : ℕ = slice_index args 0 in
    let b : ℕ = slice_index args 1 in
    let mask : IsWord b = index_word args 1 words in
    answer_where IsFit k caller service args (record {
      of_activate_task = record { kernel = activated_fits k a f; entry = record { four = refl; words = no_words }; output = tt };
      of_terminate_task = checked_by IsFit k TerminateTask (holding_status k caller) (leaves (suspended k caller) TerminateTask Ends)
          (λ _. record { kernel = suspended_fits k caller f; entry = record { four = refl; words = no_words }; output = tt })
          (λ _. plain k TerminateTask _ f);
      of_chain_task = checked_by IsFit k ChainTask (chaining k caller a) (leaves (activated (suspended k caller) a) ChainTask Ends)
          (λ _. record { kernel = activated_fits (suspended k caller) a (suspended_fits k caller f); entry = record { four = refl; words = no_words }; output = tt })
          (λ _. plain k ChainTask _ f);
      of_get_task_id = telling k GetTaskId caller id f;
      of_get_task_state = found_state k (slice_get k.states a) f;
      of_get_resource = record { kernel = same_fits k _ refl refl refl refl f; entry = record { four = refl; words = no_words }; output = tt };
      of_release_resource = record { kernel = same_fits k _ refl refl refl refl f; entry = record { four = refl; words = no_words }; output = tt };
      of_set_event = record { kernel = events_set_fits k a b mask f; entry = record { four = refl; words = no_words }; output = tt };
      of_clear_event = checked_by IsFit k ClearEvent (own_event_status k caller) (goes_on (without_events k caller a) ClearEvent E_OK)
          (λ _. plain (without_events k caller a) ClearEvent E_OK (without_events_fits k caller a f)) (λ _. plain k ClearEvent _ f);
      of_get_event = checked_by IsFit k GetEvent (event_status k a) (tells k GetEvent (events_of k a))
          (λ _. telling k GetEvent (events_of k a) (events_word k a f) f) (λ _. plain k GetEvent _ f);
      of_wait_event = wait_event_by IsFit k caller a
          (record { kernel = waiting_fits k caller a f; entry = record { four = refl; words = no_words }; output = tt })
          (plain k WaitEvent E_OK f) (λ status _. plain k WaitEvent status f);
      of_get_alarm = checked_by IsFit k GetAlarm (left_status k.alarms a) (tells k GetAlarm (left_ticks k.alarms a))
          (λ _. telling k GetAlarm (left_ticks k.alarms a)
          (ticks_word (slice_get k.alarms.alarms a) (λ x e. element IsAlarm k.alarms.alarms a x is.alarms.alarms e)) f)
          (λ _. plain k GetAlarm _ f);
      of_set_rel_alarm = record { kernel = same_fits k _ refl refl refl refl f; entry = record { four = refl; words = no_words }; output = tt };
      of_set_abs_alarm = record { kernel = same_fits k _ refl refl refl refl f; entry = record { four = refl; words = no_words }; output = tt };
      of_cancel_alarm = record { kernel = same_fits k _ refl refl refl refl f; entry = record { four = refl; words = no_words }; output = tt };
      of_send = checked_by IsFit k Send (send_status k.spec.boxes a (slice_get k.boxes a)) (goes_on (sent k a (take 4 (drop 1 args))) Send E_OK)
          (λ _. plain (sent k a (take 4 (drop 1 args))) Send E_OK (sent_fits k a (take 4 (drop 1 args))
          (record { four = message_four args six; words = All-take IsWord 4 (drop 1 args) (All-drop IsWord 1 args words) }) f))
          (λ _. plain k Send _ f);
      of_receive = receive_by IsFit k a (slice_get k.boxes a) (plain k Receive _ f) (plain k Receive _ f)
          (λ first rest there. (let messages : All FitsMessage (first ∷ rest) =
          element (λ (ms : List Message). All FitsMessage ms) k.boxes a (first ∷ rest) f.boxes there in
          let m : FitsMessage first = All-head FitsMessage first rest messages in
          record {
            kernel = boxes_fit k _ (All-set (λ (ms : List Message). All FitsMessage ms) k.boxes a rest (All-tail FitsMessage first rest messages) f.boxes) f;
            entry = record { four = m.four; words = m.words };
            output = tt;
          }));
      of_read_input = checked_by IsFit k ReadInput (port_status a) (tells k ReadInput (slice_index k.ports a))
          (λ _. telling k ReadInput (slice_index k.ports a) (index_word k.ports a f.ports) f) (λ _. plain k ReadInput _ f);
      of_write_output = checked_by IsFit k WriteOutput (port_status a) (writes k WriteOutput (record { task = caller; port = a; value = b }))
          (λ _. record { kernel = f; entry = record { four = refl; words = no_words }; output = mask }) (λ _. plain k WriteOutput _ f);
      of_shutdown_os = record { kernel = stopped_fits k false f; entry = record { four = refl; words = no_words }; output = tt };
      other = record { kernel = f; entry = record { four = refl; words = no_words }; output = tt };
    })
  where
    message_four : (args : List ℕ) → length args ≡ 6 → length (take 4 (drop 1 args)) ≡ 4
    message_four args six = omega (arith, length-take 4 (drop 1 args), length-drop 1 args)

-- actions of alarms and lines
acted_fits : (k : KernelState) (action : Action) → FitsAction action → FitsKernel k → FitsKernel (acted k action)
acted_fits k Nothing a f = f
acted_fits k Tick a f = f
acted_fits k (Activate task) a f = activated_fits k task f
acted_fits k (Event task mask) a f = events_set_fits k task mask a f

all_acted_fit : (actions : List Action) (k : KernelState) → All FitsAction actions → FitsKernel k → FitsKernel (fold acted k actions)
all_acted_fit [] k each f = f
all_acted_fit (a ∷ rest) k each f =
    all_acted_fit rest (acted k a) (All-tail FitsAction a rest each) (acted_fits k a (All-head FitsAction a rest each) f)

due_fit : (ds : List Bool) (actions : List Action) → All FitsAction actions → All FitsAction (due_actions ds actions)
due_fit [] actions each = All-nil FitsAction
due_fit (d ∷ ds) [] each = All-nil FitsAction
due_fit (true ∷ ds) (a ∷ rest) each =
    All-cons FitsAction a (due_actions ds rest) (All-head FitsAction a rest each) (due_fit ds rest (All-tail FitsAction a rest each))
due_fit (false ∷ ds) (a ∷ rest) each = due_fit ds rest (All-tail FitsAction a rest each)

tick_fits : (k : KernelState) → FitsKernel k → FitsKernel (tick k)
tick_fits k f =
    all_acted_fit (due_actions (due k.alarms) k.spec.alarms) (record k { alarms = ticked k.alarms }) (due_fit (due k.alarms) k.spec.alarms f.alarms)
    (same_fits k (record k { alarms = ticked k.alarms }) refl refl refl refl f)

performed_fits : (k : KernelState) (action : Action) → FitsAction action → FitsKernel k → FitsKernel (performed k action)
performed_fits k Nothing a f = f
performed_fits k Tick a f = tick_fits k f
performed_fits k (Activate task) a f = activated_fits k task f
performed_fits k (Event task mask) a f = events_set_fits k task mask a f

all_performed_fit : (actions : List Action) (k : KernelState) → All FitsAction actions → FitsKernel k → FitsKernel (fold performed k actions)
all_performed_fit [] k each f = f
all_performed_fit (a ∷ rest) k each f =
    all_performed_fit rest (performed k a) (All-tail FitsAction a rest each) (performed_fits k a (All-head FitsAction a rest each) f)

raised_fit : (mask line : ℕ) (actions : List Action) → All FitsAction actions → All FitsAction (raised_actions mask line actions)
raised_fit mask line [] each = All-nil FitsAction
raised_fit mask line (a ∷ rest) each =
    if_by (All FitsAction) _ (a ∷ raised_actions mask (line + 1) rest) (raised_actions mask (line + 1) rest)
    (All-cons FitsAction a (raised_actions mask (line + 1) rest) (All-head FitsAction a rest each) (raised_fit mask (line + 1) rest (All-tail FitsAction a rest each)))
    (raised_fit mask (line + 1) rest (All-tail FitsAction a rest each))

pub arrived_fits : (k : KernelState) (mask : ℕ) (ports : List ℕ) → All IsWord ports → FitsKernel k → FitsKernel (arrived k mask ports)
arrived_fits k mask ports words f =
    all_performed_fit (raised_actions mask 0 k.spec.lines) (record k { ports = ports }) (raised_fit mask 0 k.spec.lines f.lines)
    (record { events = f.events; boxes = f.boxes; ports = words; lines = f.lines; alarms = f.alarms })

pub rescheduled_fits : (k : KernelState) → FitsKernel k → FitsKernel (rescheduled k)
rescheduled_fits k f =
    if_by FitsKernel _ (if pick k == nobody then k else run_task k (pick k)) k
    (if_by FitsKernel _ k (run_task k (pick k)) f (same_fits k (run_task k (pick k)) refl refl refl refl f)) f

pub booted_fits : (spec : KernelSpec) → All FitsAction spec.lines → All FitsAction spec.alarms → FitsKernel (booted spec)
booted_fits spec lines alarms = record {
  events = All-replicate IsWord (length spec.tasks) 0 zero_word;
  boxes = All-replicate (λ (ms : List Message). All FitsMessage ms) (length spec.boxes) [] (All-nil FitsMessage);
  ports = All-replicate IsWord 4 0 zero_word;
  lines = lines;
  alarms = alarms;
}
