-- What every service answers: a status of at most 8, and an output of the caller at one of the four ports.
use Rattle.std.proofs.Common.{◌≡◌, ℕ, ◌<◌, ◌≤◌, Bool, true, false, nat_lt, not, List, take, drop, slice_get, slice_index, Option, Some, None, if◌then◌else◌, ◌==◌, refl, arith}
use Rattle.std.specs.Prelude.{IfSome}
use Rattle.std.proofs.lemmas.Bool.{ltb-true}
use Rattle.tm_marker.specs.declared.entries.Kind.TheVariants.{Waits, Ends}
use Rattle.tm_marker.specs.declared.service.Service.{Service}
use Rattle.tm_marker.specs.declared.service.Service.TheVariants.{TerminateTask, ChainTask, GetTaskState, ClearEvent, GetEvent, WaitEvent, GetAlarm, Send, Receive, ReadInput, WriteOutput}
use Rattle.tm_services.specs.declared.status.TheConstants.{E_OK, E_OS_ACCESS, E_OS_ID, E_OS_LIMIT, E_OS_NOFUNC, E_OS_RESOURCE, E_OS_STATE, E_OS_VALUE}
use Rattle.tm_services.specs.Ceilings.{CeilingsView, holds, get_status, release_status, is_user, is_held, is_last, held_by}
use Rattle.tm_services.specs.Alarms.{AlarmView, Off, Armed, setting, using, left_status, left_ticks}
use Rattle.tm_kernel.specs.declared.kernel.TaskState.{TaskState}
use Rattle.tm_kernel.specs.declared.kernel.TaskState.TheVariants.{Suspended, Ready, Running, Waiting}
use Rattle.tm_kernel.specs.Mailboxes.{Message, send_status}
use Rattle.tm_kernel.specs.State.{KernelState, events_of, is_extended}
use Rattle.tm_kernel.specs.Service.{Answered, answer, goes_on, leaves, tells, writes, checked, activation, activated, suspended, holding_status, chaining, event_status, event_status_in, own_event_status, without_events, wait_status, waiting, sent, port_status}
use Rattle.tm_kernel.proofs.Answering.{if_by, answer_where, checked_by, get_task_state_by, receive_by}

-- an answer of at most 8, with an output of the caller at one of the four ports, where there is one
pub record IsReply (task : ℕ) (a : Answered) : Type 0 where
  pub status : a.entry.status ≤ 8
  pub output : IfSome a.output (λ o. (o.task ≡ task) × (o.port < 4))

-- a status that a service can answer
abbrev IsStatus : ℕ → Type 0
IsStatus status = status ≤ 8

either : (b : Bool) (x y : ℕ) → x ≤ 8 → y ≤ 8 → IsStatus (if b then x else y)
either b x y p q = if_by IsStatus b x y p q

activation_small : (state : Option TaskState) → IsStatus (activation state)
activation_small None = omega arith
activation_small (Some Suspended) = omega arith
activation_small (Some Ready) = omega arith
activation_small (Some Running) = omega arith
activation_small (Some Waiting) = omega arith

event_small : (k : KernelState) (task : ℕ) (state : Option TaskState) → IsStatus (event_status_in k task state)
event_small k task None = omega arith
event_small k task (Some Suspended) = either (is_extended k task) E_OS_STATE E_OS_ACCESS (omega arith) (omega arith)
event_small k task (Some Ready) = either (is_extended k task) E_OK E_OS_ACCESS (omega arith) (omega arith)
event_small k task (Some Running) = either (is_extended k task) E_OK E_OS_ACCESS (omega arith) (omega arith)
event_small k task (Some Waiting) = either (is_extended k task) E_OK E_OS_ACCESS (omega arith) (omega arith)

chaining_small : (k : KernelState) (caller task : ℕ) → IsStatus (chaining k caller task)
chaining_small k caller task =
    either (activation (slice_get k.states task) == E_OS_ID) E_OS_ID _ (omega arith)
    (either (holds k.ceilings caller) E_OS_RESOURCE _ (omega arith)
    (either (task == caller) E_OK (activation (slice_get k.states task)) (omega arith) (activation_small (slice_get k.states task))))

wait_small : (k : KernelState) (caller mask : ℕ) → IsStatus (wait_status k caller mask)
wait_small k caller mask =
    either (not (is_extended k caller)) E_OS_ACCESS _ (omega arith)
    (either (holds k.ceilings caller) E_OS_RESOURCE _ (omega arith)
    (either (mask == 0) E_OS_VALUE E_OK (omega arith) (omega arith)))

get_small : (c : CeilingsView) (task res : ℕ) → IsStatus (get_status c task res)
get_small c task res =
    either (not (nat_lt res c.resources)) E_OS_ID _ (omega arith)
    (either (not (is_user (slice_index c.users res) task)) E_OS_ACCESS _ (omega arith)
    (either (is_held c res) E_OS_ACCESS E_OK (omega arith) (omega arith)))

release_small : (c : CeilingsView) (task res : ℕ) → IsStatus (release_status c task res)
release_small c task res =
    either (not (nat_lt res c.resources)) E_OS_ID _ (omega arith)
    (either (not (is_last res (held_by c task))) E_OS_NOFUNC E_OK (omega arith) (omega arith))

setting_small : (alarm : Option AlarmView) (good : Bool) → IsStatus (setting alarm good)
setting_small None good = omega arith
setting_small (Some Off) good = either good E_OK E_OS_VALUE (omega arith) (omega arith)
setting_small (Some (Armed left cycle)) good = omega arith

using_small : (alarm : Option AlarmView) → IsStatus (using alarm)
using_small None = omega arith
using_small (Some Off) = omega arith
using_small (Some (Armed left cycle)) = omega arith

send_small : (capacities : List ℕ) (box : ℕ) (messages : Option (List Message)) → IsStatus (send_status capacities box messages)
send_small capacities box None = omega arith
send_small capacities box (Some messages) = either _ E_OK E_OS_LIMIT (omega arith) (omega arith)

-- a call that only answers a status
calm : (task : ℕ) (k : KernelState) (service : Service) (status : ℕ) → status ≤ 8 → IsReply task (goes_on k service status)
calm task k service status small = record { status = small; output = tt }

-- a call that is done, or refused with a status
checked_small : (task : ℕ) (k : KernelState) (service : Service) (status : ℕ) (done : Answered) → status ≤ 8 → IsReply task done →
    IsReply task (checked k service status done)
checked_small task k service status done small reply =
    checked_by (IsReply task) k service status done (λ _. reply) (λ _. calm task k service status small)

port_small : (port : ℕ) → IsStatus (port_status port)
port_small port = either (nat_lt port 4) E_OK E_OS_ID (omega arith) (omega arith)

-- an output is made only where there is such a port
port_there : (port : ℕ) → port_status port ≡ E_OK → port < 4
port_there port ok = go (nat_lt port 4) refl ok
  where
    go : (b : Bool) → nat_lt port 4 ≡ b → (if b then E_OK else E_OS_ID) ≡ E_OK → port < 4
    go true is same = ltb-true port 4 is
    go false is same = absurd (omega (arith, same))

pub replies : (k : KernelState) (task service : ℕ) (args : List ℕ) → IsReply task (answer k task service args)
replies k task service args =
    let P : Answered → Type 0 = IsReply task in
    let a : ℕ = slice_index args 0 in
    answer_where P k task service args (record {
      of_activate_task = record { status = activation_small (slice_get k.states a); output = tt };
      of_terminate_task = checked_small task k TerminateTask (holding_status k task) (leaves (suspended k task) TerminateTask Ends)
          (either (holds k.ceilings task) E_OS_RESOURCE E_OK (omega arith) (omega arith)) (record { status = omega arith; output = tt });
      of_chain_task = checked_small task k ChainTask (chaining k task a) (leaves (activated (suspended k task) a) ChainTask Ends) (chaining_small k task a)
          (record { status = omega arith; output = tt });
      of_get_task_id = record { status = omega arith; output = tt };
      of_get_task_state = get_task_state_by P k (slice_get k.states a) (calm task k GetTaskState E_OS_ID (omega arith)) (λ _. record { status = omega arith; output = tt });
      of_get_resource = record { status = get_small k.ceilings task a; output = tt };
      of_release_resource = record { status = release_small k.ceilings task a; output = tt };
      of_set_event = record { status = event_small k a (slice_get k.states a); output = tt };
      of_clear_event = checked_small task k ClearEvent (own_event_status k task) (goes_on (without_events k task a) ClearEvent E_OK)
          (either (is_extended k task) E_OK E_OS_ACCESS (omega arith) (omega arith)) (record { status = omega arith; output = tt });
      of_get_event = checked_small task k GetEvent (event_status k a) (tells k GetEvent (events_of k a)) (event_small k a (slice_get k.states a))
          (record { status = omega arith; output = tt });
      of_wait_event = checked_small task k WaitEvent (wait_status k task a) _ (wait_small k task a)
          (if_by P _ (leaves (waiting k task a) WaitEvent Waits) (goes_on k WaitEvent E_OK) (record { status = omega arith; output = tt }) (record { status = omega arith; output = tt }));
      of_get_alarm = checked_small task k GetAlarm (left_status k.alarms a) (tells k GetAlarm (left_ticks k.alarms a)) (using_small (slice_get k.alarms.alarms a))
          (record { status = omega arith; output = tt });
      of_set_rel_alarm = record { status = setting_small (slice_get k.alarms.alarms a) _; output = tt };
      of_set_abs_alarm = record { status = setting_small (slice_get k.alarms.alarms a) _; output = tt };
      of_cancel_alarm = record { status = using_small (slice_get k.alarms.alarms a); output = tt };
      of_send = checked_small task k Send (send_status k.spec.boxes a (slice_get k.boxes a)) (goes_on (sent k a (take 4 (drop 1 args))) Send E_OK)
          (send_small k.spec.boxes a (slice_get k.boxes a)) (record { status = omega arith; output = tt });
      of_receive = receive_by P k a (slice_get k.boxes a) (calm task k Receive E_OS_ID (omega arith)) (calm task k Receive E_OS_NOFUNC (omega arith))
          (λ _ _ _. record { status = omega arith; output = tt });
      of_read_input = checked_small task k ReadInput (port_status a) (tells k ReadInput (slice_index k.ports a)) (port_small a) (record { status = omega arith; output = tt });
      of_write_output = checked_by P k WriteOutput (port_status a) (writes k WriteOutput (record { task = task; port = a; value = slice_index args 1 }))
          (λ ok. record { status = omega arith; output = (refl, port_there a ok) }) (λ _. calm task k WriteOutput (port_status a) (port_small a));
      of_shutdown_os = record { status = omega arith; output = tt };
      other = record { status = omega arith; output = tt };
    })
