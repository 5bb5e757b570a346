-- What every kernel keeps, through each of its steps.
use Rattle.std.proofs.Common.{◌≡◌, ◌≢◌, ℕ, ◌<◌, ◌≤◌, ◌++◌, ◌⊎◌, Bool, true, false, List, [], ◌∷◌, length, refl, subst, ap, sym, ◌∙◌, arith, Some, None, zero, suc, inl, inr, slice_get, slice_set, length-set, Option, if◌then◌else◌, ◌==◌, bit_and, bit_or, unwrap_or, nat_lt}
use Rattle.std.proofs.lemmas.Bool.{cases_eq, eq-eqb, ne_eqb, ltb-true}
use Rattle.std.proofs.lemmas.List.{length-map, length-append}
use Rattle.std.proofs.lemmas.List.Elements.{All-push, All-tail}
use Rattle.std.proofs.lemmas.Option.{slice_get_within, same_Some}
use Rattle.std.specs.List.{fold}
use Rattle.tm_services.specs.Ceilings.{CeilingsView, IsCeilings, get_status, got, release_status, released}
use Rattle.tm_services.specs.Alarms.{AlarmsView, IsAlarms, ticked, due, set_rel, set_abs, cancelled}
use Rattle.tm_services.proofs.Holding.{free_from_status, taken_keeps, given_back_keeps}
use Rattle.tm_kernel.specs.declared.kernel.TaskState.{TaskState}
use Rattle.tm_kernel.specs.declared.kernel.TaskState.TheVariants.{Suspended, Ready, Running, Waiting}
use Rattle.tm_kernel.specs.Mailboxes.{Message, MailboxesView, send_status, put_last, without_first}
use Rattle.tm_kernel.specs.State.{KernelState, IsKernel, IsBox, nobody, paused, stopped, events_of, awaited_by}
use Rattle.tm_kernel.specs.Service.{activation, activated, suspended, waiting, woken, with_events, events_set, event_status, without_events, sent}
use Rattle.tm_kernel.specs.Schedule.{run_task, acted, tick, due_actions, performed, arrived, raised_actions}
use Rattle.tm_kernel.specs.declared.spec.Action.{Action}
use Rattle.tm_kernel.specs.declared.spec.Action.TheVariants.{Nothing, Tick, Activate, Event}
use Rattle.tm_services.specs.declared.status.TheConstants.{E_OK, E_OS_LIMIT}
pub use Rattle.tm_kernel.proofs.Booting.{booted_keeps}
use Rattle.tm_kernel.proofs.Alarming.{ticked_keeps, set_rel_keeps, set_abs_keeps, cancelled_keeps, length-set_rel, length-set_abs, length-cancelled}

-- an element that was put
pub slice_get_set_same : {X : Type 0} (xs : List X) (i : ℕ) (x : X) → i < length xs → slice_get (slice_set xs i x) i ≡ Some x
slice_get_set_same [] i x h = absurd (omega arith)
slice_get_set_same (y ∷ ys) zero x h = refl
slice_get_set_same (y ∷ ys) (suc i) x h = slice_get_set_same ys i x (omega arith)

-- an element beside one that was put
pub slice_get_set_other : {X : Type 0} (xs : List X) (i j : ℕ) (x : X) → j ≢ i → slice_get (slice_set xs i x) j ≡ slice_get xs j
slice_get_set_other [] i j x h = refl
slice_get_set_other (y ∷ ys) zero zero x h = absurd (h refl)
slice_get_set_other (y ∷ ys) zero (suc j) x h = refl
slice_get_set_other (y ∷ ys) (suc i) zero x h = refl
slice_get_set_other (y ∷ ys) (suc i) (suc j) x h = slice_get_set_other ys i j x (λ e. h (ap suc e))

-- a state that is put where it is not the wanted one leaves no new place of the wanted one
pub set_elsewhere : (states : List TaskState) (i t : ℕ) (put wanted : TaskState) → put ≢ wanted →
    slice_get (slice_set states i put) t ≡ Some wanted → (t ≢ i) × (slice_get states t ≡ Some wanted)
set_elsewhere states i t put wanted ne h = elim (cases_eq t i) [
  | inl e ↦
      let here : slice_get (slice_set states i put) i ≡ Some wanted = subst (λ (x : ℕ). slice_get (slice_set states i put) x ≡ Some wanted) e h in
      let within : i < length (slice_set states i put) = slice_get_within _ i wanted here in
      let same : slice_get (slice_set states i put) i ≡ Some put = slice_get_set_same states i put (omega (arith, length-set states i put)) in
      absurd (ne (cc))
  | inr e ↦ (e, sym (slice_get_set_other states i t put e) ∙ h)
]

-- nobody is no task
pub below_nobody : (k : KernelState) → IsKernel k → (t : ℕ) (s : TaskState) → slice_get k.states t ≡ Some s → t < 255
below_nobody k h t s e = omega (arith, slice_get_within _ t s e, h.states, h.spec.few_tasks)

-- where nobody runs, no state is running
pub none_running : (k : KernelState) → IsKernel k → k.running ≡ nobody → (t : ℕ) → slice_get k.states t ≡ Some Running → ⊥
none_running k h e t there = omega (arith, below_nobody k h t Running there, h.alone t there)

-- a task in another state than running is not the running one
pub not_running : (k : KernelState) (task : ℕ) (s : TaskState) → IsKernel k → slice_get k.states task ≡ Some s → s ≢ Running → k.running ≢ task
not_running k task s h e apart same = elim h.running [
  | inl none ↦ omega (arith, below_nobody k h task s e)
  | inr there ↦ (let u : slice_get k.states task ≡ Some Running = subst (λ (x : ℕ). slice_get k.states x ≡ Some Running) same there in
      apart (same_Some s Running (sym e ∙ u)))
]

-- other tasks, where the running one alone is running
pub with_tasks : (k : KernelState) (states : List TaskState) (events awaited : List ℕ) (running ended : ℕ) → IsKernel k →
    length states ≡ length k.states → length events ≡ length k.events → length awaited ≡ length k.awaited →
    ((running ≡ nobody) ⊎ (slice_get states running ≡ Some Running)) →
    ((t : ℕ) → slice_get states t ≡ Some Running → running ≡ t) →
    ended ≤ 2 →
    IsKernel (record k { states = states; events = events; awaited = awaited; running = running; ended = ended })
with_tasks k states events awaited running ended h s e a r al f = record {
  spec = h.spec;
  states = s ∙ h.states;
  events = e ∙ h.events;
  awaited = a ∙ h.awaited;
  ceilings = h.ceilings;
  priorities = h.priorities;
  users = h.users;
  resources = h.resources;
  alarms = h.alarms;
  alarm_number = h.alarm_number;
  box_number = h.box_number;
  boxes = h.boxes;
  running = r;
  alone = al;
  ended = f;
}

-- other resources that are held
pub with_ceilings : (k : KernelState) (c : CeilingsView) → IsKernel k → IsCeilings c → c.priorities ≡ k.ceilings.priorities →
    c.users ≡ k.ceilings.users → c.resources ≡ k.ceilings.resources → IsKernel (record k { ceilings = c })
with_ceilings k c h good p u r = record {
  spec = h.spec;
  states = h.states;
  events = h.events;
  awaited = h.awaited;
  ceilings = good;
  priorities = p ∙ h.priorities;
  users = u ∙ h.users;
  resources = r ∙ h.resources;
  alarms = h.alarms;
  alarm_number = h.alarm_number;
  box_number = h.box_number;
  boxes = h.boxes;
  running = h.running;
  alone = h.alone;
  ended = h.ended;
}

-- other alarms
pub with_alarms : (k : KernelState) (a : AlarmsView) → IsKernel k → IsAlarms a → length a.alarms ≡ length k.alarms.alarms →
    IsKernel (record k { alarms = a })
with_alarms k a h good n = record {
  spec = h.spec;
  states = h.states;
  events = h.events;
  awaited = h.awaited;
  ceilings = h.ceilings;
  priorities = h.priorities;
  users = h.users;
  resources = h.resources;
  alarms = good;
  alarm_number = n ∙ h.alarm_number;
  box_number = h.box_number;
  boxes = h.boxes;
  running = h.running;
  alone = h.alone;
  ended = h.ended;
}

-- other messages in the boxes
with_boxes : (k : KernelState) (boxes : List (List Message)) → IsKernel k → length boxes ≡ length k.boxes →
    ((box capacity : ℕ) (messages : List Message) → slice_get k.spec.boxes box ≡ Some capacity → slice_get boxes box ≡ Some messages →
    IsBox capacity messages) →
    IsKernel (record k { boxes = boxes })
with_boxes k boxes h n good = record {
  spec = h.spec;
  states = h.states;
  events = h.events;
  awaited = h.awaited;
  ceilings = h.ceilings;
  priorities = h.priorities;
  users = h.users;
  resources = h.resources;
  alarms = h.alarms;
  alarm_number = h.alarm_number;
  box_number = n ∙ h.box_number;
  boxes = good;
  running = h.running;
  alone = h.alone;
  ended = h.ended;
}

-- other latched words
pub with_ports : (k : KernelState) (ports : List ℕ) → IsKernel k → IsKernel (record k { ports = ports })
with_ports k ports h = record {
  spec = h.spec;
  states = h.states;
  events = h.events;
  awaited = h.awaited;
  ceilings = h.ceilings;
  priorities = h.priorities;
  users = h.users;
  resources = h.resources;
  alarms = h.alarms;
  alarm_number = h.alarm_number;
  box_number = h.box_number;
  boxes = h.boxes;
  running = h.running;
  alone = h.alone;
  ended = h.ended;
}

-- a pause keeps the number of states
pub length-paused : (k : KernelState) → length (paused k) ≡ length k.states
length-paused k = elim (cases_eq k.running nobody) [
  | inl e ↦ rw (eq-eqb k.running nobody e) refl
  | inr e ↦ rw (ne_eqb k.running nobody e) (length-set k.states k.running Ready)
]

-- after a pause no state is running
pub none_running_paused : (k : KernelState) → IsKernel k → (t : ℕ) → slice_get (paused k) t ≡ Some Running → ⊥
none_running_paused k h t there = elim (cases_eq k.running nobody) [
  | inl e ↦ none_running k h e t (rw (eq-eqb k.running nobody e) at there)
  | inr e ↦
      let put : slice_get (slice_set k.states k.running Ready) t ≡ Some Running = rw (ne_eqb k.running nobody e) at there in
      let other = set_elsewhere k.states k.running t Ready Running (λ e. cc) put in
      other.0 (sym (h.alone t other.1))
]

-- a task that there is can be run
pub runs_keeps : (k : KernelState) (task : ℕ) → IsKernel k → task < length k.states → IsKernel (run_task k task)
runs_keeps k task h there =
    let within : task < length (paused k) = omega (arith, length-paused k) in
    with_tasks k (slice_set (paused k) task Running) k.events k.awaited task k.ended h
    (length-set (paused k) task Running ∙ length-paused k) refl refl
    (inr (slice_get_set_same (paused k) task Running within))
    (λ t e. elim (cases_eq t task) [
      | inl same ↦ sym same
      | inr other ↦ absurd (none_running_paused k h t (sym (slice_get_set_other (paused k) task t Running other) ∙ e))
    ])
    h.ended

stop_number : (fault : Bool) → (if fault then 1 else 2) ≤ 2
stop_number true = omega arith
stop_number false = omega arith

-- a run can end
pub stopped_keeps : (k : KernelState) (fault : Bool) → IsKernel k → IsKernel (stopped k fault)
stopped_keeps k fault h =
    with_tasks k (paused k) k.events k.awaited nobody (if fault then 1 else 2) h (length-paused k) refl refl
    (inl refl) (λ t e. absurd (none_running_paused k h t e)) (stop_number fault)

-- a task in another state than running can be made ready
pub put_ready_keeps : (k : KernelState) (task : ℕ) (events : List ℕ) (s : TaskState) → IsKernel k → slice_get k.states task ≡ Some s → s ≢ Running →
    length events ≡ length k.events → IsKernel (record k { states = slice_set k.states task Ready; events = events })
put_ready_keeps k task events s h e other number =
    let apart : k.running ≢ task = not_running k task s h e other in
    with_tasks k (slice_set k.states task Ready) events k.awaited k.running k.ended h (length-set k.states task Ready) number refl
    (elim h.running [
      | inl none ↦ inl none
      | inr there ↦ inr (slice_get_set_other k.states task k.running Ready apart ∙ there)
    ])
    (λ t there. h.alone t (set_elsewhere k.states task t Ready Running (λ e. cc) there).1)
    h.ended

-- other events that are set
pub put_events_keeps : (k : KernelState) (events : List ℕ) → IsKernel k → length events ≡ length k.events → IsKernel (record k { events = events })
put_events_keeps k events h number =
    with_tasks k k.states events k.awaited k.running k.ended h refl number refl h.running h.alone h.ended

-- an activation
pub activated_keeps : (k : KernelState) (task : ℕ) → IsKernel k → IsKernel (activated k task)
activated_keeps k task h = go (slice_get k.states task) refl
  where
    go : (found : Option TaskState) → slice_get k.states task ≡ found →
        IsKernel (if activation found == E_OK then record k { states = slice_set k.states task Ready; events = slice_set k.events task 0 } else k)
    go None e = h
    go (Some Suspended) e = put_ready_keeps k task (slice_set k.events task 0) Suspended h e (λ e. cc) (length-set k.events task 0)
    go (Some Ready) e = h
    go (Some Running) e = h
    go (Some Waiting) e = h

-- the running task is put into another state, and nobody runs
left_keeps : (k : KernelState) (caller : ℕ) (s : TaskState) (awaited : List ℕ) → IsKernel k → k.running ≡ caller → s ≢ Running →
    length awaited ≡ length k.awaited →
    IsKernel (record k { states = slice_set k.states caller s; awaited = awaited; running = nobody })
left_keeps k caller s awaited h runs other number =
    with_tasks k (slice_set k.states caller s) k.events awaited nobody k.ended h (length-set k.states caller s) refl number (inl refl)
    (λ t e. (let there = set_elsewhere k.states caller t s Running other e in absurd (there.0 (sym (h.alone t there.1) ∙ runs))))
    h.ended

-- the end of a running task
pub suspended_keeps : (k : KernelState) (caller : ℕ) → IsKernel k → k.running ≡ caller → IsKernel (suspended k caller)
suspended_keeps k caller h runs = left_keeps k caller Suspended k.awaited h runs (λ e. cc) refl

-- a running task that waits
pub waiting_keeps : (k : KernelState) (caller mask : ℕ) → IsKernel k → k.running ≡ caller → IsKernel (waiting k caller mask)
waiting_keeps k caller mask h runs =
    left_keeps k caller Waiting (slice_set k.awaited caller mask) h runs (λ e. cc) (length-set k.awaited caller mask)

-- events that are set
pub with_events_keeps : (k : KernelState) (task mask : ℕ) → IsKernel k → IsKernel (with_events k task mask)
with_events_keeps k task mask h = go (slice_get k.states task) refl (bit_and events (awaited_by k task))
  where
    events : ℕ
    events = bit_or (events_of k task) mask

    number : length (slice_set k.events task events) ≡ length k.events
    number = length-set k.events task events

    same : IsKernel (record k { events = slice_set k.events task events })
    same = put_events_keeps k (slice_set k.events task events) h number

    go : (found : Option TaskState) → slice_get k.states task ≡ found → (set : ℕ) →
        IsKernel (record k { events = slice_set k.events task events; states = woken found set k.states task })
    go None e set = same
    go (Some Suspended) e set = same
    go (Some Ready) e set = same
    go (Some Running) e set = same
    go (Some Waiting) e set = wake (set == 0)
      where
        wake : (b : Bool) → IsKernel (record k { events = slice_set k.events task events; states = if b then k.states else slice_set k.states task Ready })
        wake true = same
        wake false = put_ready_keeps k task (slice_set k.events task events) Waiting h e (λ e. cc) number

pub events_set_keeps : (k : KernelState) (task mask : ℕ) → IsKernel k → IsKernel (events_set k task mask)
events_set_keeps k task mask h = go (event_status k task == E_OK)
  where
    go : (b : Bool) → IsKernel (if b then with_events k task mask else k)
    go true = with_events_keeps k task mask h
    go false = h

-- events that are cleared
pub without_events_keeps : (k : KernelState) (task mask : ℕ) → IsKernel k → IsKernel (without_events k task mask)
without_events_keeps k task mask h = put_events_keeps k _ h (length-set k.events task _)

-- a resource that is got
pub got_keeps : (k : KernelState) (task res : ℕ) → IsKernel k → task < 16 → IsKernel (record k { ceilings = got k.ceilings task res })
got_keeps k task res h within = elim (cases_eq (get_status k.ceilings task res) E_OK) [
  | inl e ↦ rw (eq-eqb (get_status k.ceilings task res) E_OK e)
      (with_ceilings k _ h (taken_keeps k.ceilings task res h.ceilings within (free_from_status k.ceilings task res e)) refl refl refl)
  | inr ne ↦ rw (ne_eqb (get_status k.ceilings task res) E_OK ne) h
]

-- a resource that is released
pub released_keeps : (k : KernelState) (task res : ℕ) → IsKernel k → task < 16 → IsKernel (record k { ceilings = released k.ceilings task res })
released_keeps k task res h within = elim (cases_eq (release_status k.ceilings task res) E_OK) [
  | inl e ↦ rw (eq-eqb (release_status k.ceilings task res) E_OK e)
      (with_ceilings k _ h (given_back_keeps k.ceilings task _ h.ceilings within) refl refl refl)
  | inr ne ↦ rw (ne_eqb (release_status k.ceilings task res) E_OK ne) h
]

-- an alarm that is set or cancelled
pub set_rel_alarm_keeps : (k : KernelState) (alarm increment cycle : ℕ) → IsKernel k → IsKernel (record k { alarms = set_rel k.alarms alarm increment cycle })
set_rel_alarm_keeps k alarm increment cycle h =
    with_alarms k _ h (set_rel_keeps k.alarms alarm increment cycle h.alarms) (length-set_rel k.alarms alarm increment cycle)

pub set_abs_alarm_keeps : (k : KernelState) (alarm start cycle : ℕ) → IsKernel k → IsKernel (record k { alarms = set_abs k.alarms alarm start cycle })
set_abs_alarm_keeps k alarm start cycle h =
    with_alarms k _ h (set_abs_keeps k.alarms alarm start cycle h.alarms) (length-set_abs k.alarms alarm start cycle)

pub cancelled_alarm_keeps : (k : KernelState) (alarm : ℕ) → IsKernel k → IsKernel (record k { alarms = cancelled k.alarms alarm })
cancelled_alarm_keeps k alarm h = with_alarms k _ h (cancelled_keeps k.alarms alarm h.alarms) (length-cancelled k.alarms alarm)

-- other messages in one box
put_box_keeps : (k : KernelState) (box : ℕ) (messages : List Message) → IsKernel k →
    ((capacity : ℕ) → slice_get k.spec.boxes box ≡ Some capacity → IsBox capacity messages) →
    IsKernel (record k { boxes = slice_set k.boxes box messages })
put_box_keeps k box messages h good =
    with_boxes k (slice_set k.boxes box messages) h (length-set k.boxes box messages) (λ b capacity ms spec there. elim (cases_eq b box) [
      | inl e ↦
          let at : slice_get (slice_set k.boxes box messages) box ≡ Some ms =
          subst (λ (x : ℕ). slice_get (slice_set k.boxes box messages) x ≡ Some ms) e there in
          let within : box < length (slice_set k.boxes box messages) = slice_get_within _ box ms at in
          let same : slice_get (slice_set k.boxes box messages) box ≡ Some messages =
          slice_get_set_same k.boxes box messages (omega (arith, length-set k.boxes box messages)) in
          subst (IsBox capacity) (same_Some messages ms (sym same ∙ at)) (good capacity (subst (λ (x : ℕ). slice_get k.spec.boxes x ≡ Some capacity) e spec))
      | inr ne ↦ h.boxes b capacity ms spec (sym (slice_get_set_other k.boxes box b messages ne) ∙ there)
    ])

room_in : (capacities : List ℕ) (box capacity : ℕ) (messages : List Message) → send_status capacities box (Some messages) ≡ E_OK →
    slice_get capacities box ≡ Some capacity → length messages < capacity
room_in capacities box capacity messages ok e = go (nat_lt (length messages) capacity) refl (rw e at ok)
  where
    go : (b : Bool) → nat_lt (length messages) capacity ≡ b → (if b then E_OK else E_OS_LIMIT) ≡ E_OK → length messages < capacity
    go true is _ = ltb-true (length messages) capacity is
    go false is e = absurd (omega arith)

-- a message that is sent
pub sent_keeps : (k : KernelState) (box : ℕ) (message : Message) → IsKernel k → length message ≡ 4 →
    send_status k.spec.boxes box (slice_get k.boxes box) ≡ E_OK → IsKernel (sent k box message)
sent_keeps k box message h four = go (slice_get k.boxes box) refl
  where
    go : (found : Option (List Message)) → slice_get k.boxes box ≡ found → send_status k.spec.boxes box found ≡ E_OK →
        IsKernel (record k { boxes = slice_set k.boxes box (unwrap_or found [] ++ message ∷ []) })
    go None e ok = absurd (omega arith)
    go (Some messages) e ok = put_box_keeps k box (messages ++ message ∷ []) h (λ capacity spec. (
        let before : IsBox capacity messages = h.boxes box capacity messages spec e in
        record {
          few = omega (arith, length-append messages (message ∷ []), room_in k.spec.boxes box capacity messages ok spec);
          words = All-push (λ (m : Message). length m ≡ 4) messages message before.words four;
        }))

-- a message that is taken out
pub taken_keeps_boxes : (k : KernelState) (box : ℕ) (first : Message) (rest : List Message) → IsKernel k → slice_get k.boxes box ≡ Some (first ∷ rest) →
    IsKernel (record k { boxes = slice_set k.boxes box rest })
taken_keeps_boxes k box first rest h e = put_box_keeps k box rest h (λ capacity spec. (
    let before : IsBox capacity (first ∷ rest) = h.boxes box capacity (first ∷ rest) spec e in
    record {
      few = omega (arith, before.few);
      words = All-tail (λ (m : Message). length m ≡ 4) first rest before.words;
    }))

-- the boxes after Send
pub boxes_sent : (k : KernelState) (new : MailboxesView) (box status : ℕ) (message : Message) → IsKernel k → length message ≡ 4 →
    status ≡ send_status k.spec.boxes box (slice_get k.boxes box) →
    new ≡ (if status == E_OK then record { messages = put_last k.boxes box message; capacities = k.spec.boxes } else record { messages = k.boxes; capacities = k.spec.boxes }) →
    IsKernel (record k { boxes = new.messages }) × (new.capacities ≡ k.spec.boxes)
boxes_sent k new box status message h four s is = elim (cases_eq status E_OK) [
  | inl e ↦
      let sent_so : new ≡ record { messages = put_last k.boxes box message; capacities = k.spec.boxes } = rw (eq-eqb status E_OK e) at is in
      rw sent_so (sent_keeps k box message h four (sym s ∙ e), refl)
  | inr ne ↦
      let same : new ≡ record { messages = k.boxes; capacities = k.spec.boxes } = rw (ne_eqb status E_OK ne) at is in
      rw same (h, refl)
]

-- the boxes after Receive
pub boxes_received : (k : KernelState) (new : MailboxesView) (box : ℕ) → IsKernel k →
    new ≡ record { messages = without_first k.boxes box (slice_get k.boxes box); capacities = k.spec.boxes } →
    IsKernel (record k { boxes = new.messages }) × (new.capacities ≡ k.spec.boxes)
boxes_received k new box h is = go (slice_get k.boxes box) refl is
  where
    go : (found : Option (List Message)) → slice_get k.boxes box ≡ found →
        new ≡ record { messages = without_first k.boxes box found; capacities = k.spec.boxes } →
        IsKernel (record k { boxes = new.messages }) × (new.capacities ≡ k.spec.boxes)
    go None e same = rw same (h, refl)
    go (Some []) e same = rw same (h, refl)
    go (Some (first ∷ rest)) e same = rw same (taken_keeps_boxes k box first rest h e, refl)

-- what an alarm does
pub acted_keeps : (k : KernelState) (action : Action) → IsKernel k → IsKernel (acted k action)
acted_keeps k Nothing h = h
acted_keeps k Tick h = h
acted_keeps k (Activate task) h = activated_keeps k task h
acted_keeps k (Event task mask) h = events_set_keeps k task mask h

pub all_acted_keeps : (actions : List Action) (k : KernelState) → IsKernel k → IsKernel (fold acted k actions)
all_acted_keeps [] k h = h
all_acted_keeps (a ∷ rest) k h = all_acted_keeps rest (acted k a) (acted_keeps k a h)

-- a tick
pub counted_keeps : (k : KernelState) → IsKernel k → IsKernel (record k { alarms = ticked k.alarms })
counted_keeps k h = with_alarms k (ticked k.alarms) h (ticked_keeps k.alarms h.alarms) (length-map k.alarms.alarms _)

pub tick_keeps : (k : KernelState) → IsKernel k → IsKernel (tick k)
tick_keeps k h = all_acted_keeps (due_actions (due k.alarms) k.spec.alarms) (record k { alarms = ticked k.alarms }) (counted_keeps k h)

-- an action of a line
pub performed_keeps : (k : KernelState) (action : Action) → IsKernel k → IsKernel (performed k action)
performed_keeps k Nothing h = h
performed_keeps k Tick h = tick_keeps k h
performed_keeps k (Activate task) h = activated_keeps k task h
performed_keeps k (Event task mask) h = events_set_keeps k task mask h

pub all_performed_keeps : (actions : List Action) (k : KernelState) → IsKernel k → IsKernel (fold performed k actions)
all_performed_keeps [] k h = h
all_performed_keeps (a ∷ rest) k h = all_performed_keeps rest (performed k a) (performed_keeps k a h)

-- an arrival
pub arrived_keeps : (k : KernelState) (mask : ℕ) (ports : List ℕ) → IsKernel k → IsKernel (arrived k mask ports)
arrived_keeps k mask ports h =
    all_performed_keeps (raised_actions mask 0 k.spec.lines) (record k { ports = ports }) (with_ports k ports h)
