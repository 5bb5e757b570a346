-- The output of a call is the one that the data entry of the call tells of.
use Rattle.std.proofs.Common.{◌≡◌, ◌≢◌, ℕ, Bool, true, false, nat_lt, ◌==◌, if◌then◌else◌, List, take, drop, slice_get, slice_index, None, refl, inl, inr}
use Rattle.std.specs.Prelude.{option_to_list}
use Rattle.std.proofs.lemmas.Bool.{cases_Bool, ne_eqb}
use Rattle.tm_marker.specs.declared.entries.Kind.TheVariants.{Ends}
use Rattle.tm_marker.specs.declared.body.Body.{Body}
use Rattle.tm_marker.specs.declared.entries.OutputEntry.{OutputEntry}
use Rattle.tm_marker.specs.declared.service.Service.{Service}
use Rattle.tm_marker.specs.declared.service.Service.TheVariants.{TerminateTask, ChainTask, ClearEvent, GetEvent, GetAlarm, Send, ReadInput, WriteOutput}
use Rattle.tm_marker.specs.Service.{service_number}
use Rattle.tm_services.specs.declared.status.TheConstants.{E_OK, E_OS_ID, E_OS_NOFUNC}
use Rattle.tm_services.specs.Alarms.{left_status, left_ticks}
use Rattle.tm_kernel.specs.State.{KernelState, events_of}
use Rattle.tm_kernel.specs.Mailboxes.{send_status}
use Rattle.tm_kernel.specs.Service.{Answered, answer, entry_of, goes_on, leaves, tells, writes, activated, suspended, holding_status, chaining, event_status, own_event_status, without_events, sent, port_status}
use Rattle.tm_kernel.proofs.Answering.{answer_where, checked_by, get_task_state_by, receive_by, wait_event_by}
use Rattle.tm_task.specs.Exec.{reg}
use Rattle.tm_task.specs.Standing.{args_of}
use Rattle.tm_task.specs.Place.{output_of}

-- a call's output is that of its entry
abbrev pub Tells : ℕ → Body → Answered → Type 0
Tells task b a = option_to_list a.output ≡ output_of task b a.entry

-- a refused call has none
none_told : (task : ℕ) (b : Body) (number status : ℕ) → status ≢ E_OK → option_to_list {X = OutputEntry} None ≡ output_of task b (entry_of number status)
none_told task b number status ne = elim (cases_Bool (number == 19)) [
  | inl is ↦ rw (is, ne_eqb status 0 ne) refl
  | inr is ↦ rw is refl
]

refused_tells : (task : ℕ) (b : Body) (k : KernelState) (service : Service) (status : ℕ) → status ≢ E_OK → Tells task b (goes_on k service status)
refused_tells task b k service status ne = none_told task b (service_number service) status ne

-- an output is made only where there is such a port
port_there : (port : ℕ) → port_status port ≡ E_OK → nat_lt port 4 ≡ true
port_there port ok = go (nat_lt port 4) refl ok
  where
    go : (b : Bool) → nat_lt port 4 ≡ b → (if b then E_OK else E_OS_ID) ≡ E_OK → nat_lt port 4 ≡ true
    go true is same = is
    go false is same = cc

written_tells : (task : ℕ) (b : Body) (k : KernelState) → nat_lt (reg b 10) 4 ≡ true →
    Tells task b (writes k WriteOutput (record { task = task; port = reg b 10; value = reg b 11 }))
written_tells task b k there = rw there refl

pub output_tells : (k : KernelState) (task service : ℕ) (b : Body) → Tells task b (answer k task service (args_of b))
output_tells k task service b =
    let args : List ℕ = args_of b in
    let P : Answered → Type 0 = Tells task b in
    let a : ℕ = reg b 10 in
    answer_where P k task service args (record {
      of_activate_task = refl;
      of_terminate_task = checked_by P k TerminateTask (holding_status k task) (leaves (suspended k task) TerminateTask Ends) (λ _. refl) (λ _. refl);
      of_chain_task = checked_by P k ChainTask (chaining k task a) (leaves (activated (suspended k task) a) ChainTask Ends) (λ _. refl) (λ _. refl);
      of_get_task_id = refl;
      of_get_task_state = get_task_state_by P k (slice_get k.states a) refl (λ _. refl);
      of_get_resource = refl;
      of_release_resource = refl;
      of_set_event = refl;
      of_clear_event = checked_by P k ClearEvent (own_event_status k task) (goes_on (without_events k task a) ClearEvent E_OK) (λ _. refl) (λ _. refl);
      of_get_event = checked_by P k GetEvent (event_status k a) (tells k GetEvent (events_of k a)) (λ _. refl) (λ _. refl);
      of_wait_event = wait_event_by P k task a refl refl (λ _ _. refl);
      of_get_alarm = checked_by P k GetAlarm (left_status k.alarms a) (tells k GetAlarm (left_ticks k.alarms a)) (λ _. refl) (λ _. refl);
      of_set_rel_alarm = refl;
      of_set_abs_alarm = refl;
      of_cancel_alarm = refl;
      of_send = checked_by P k Send (send_status k.spec.boxes a (slice_get k.boxes a)) (goes_on (sent k a (take 4 (drop 1 args))) Send E_OK) (λ _. refl) (λ _. refl);
      of_receive = receive_by P k a (slice_get k.boxes a) refl refl (λ _ _ _. refl);
      of_read_input = checked_by P k ReadInput (port_status a) (tells k ReadInput (slice_index k.ports a)) (λ _. refl) (λ _. refl);
      of_write_output = checked_by P k WriteOutput (port_status a) (writes k WriteOutput (record { task = task; port = a; value = reg b 11 }))
          (λ ok. written_tells task b k (port_there a ok)) (refused_tells task b k WriteOutput (port_status a));
      of_shutdown_os = refl;
      other = none_told task b service E_OS_NOFUNC (λ e. cc);
    })
