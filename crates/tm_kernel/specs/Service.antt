-- What a service call does and answers, one row of the table of services for each.
use Rattle.std.specs.Prelude.{◌≡◌, ℕ, ◌-◌, ◌==◌, nat_lt, bit_and, bit_or, not, false, if◌then◌else◌, List, [], ◌∷◌, take, drop, slice_get, slice_set, slice_index, Option, Some, None}
use Rattle.tm_marker.specs.declared.entries.DataEntry.{DataEntry}
use Rattle.tm_marker.specs.declared.entries.OutputEntry.{OutputEntry}
use Rattle.tm_marker.specs.declared.entries.Kind.{Kind}
use Rattle.tm_marker.specs.declared.entries.Kind.TheVariants.{Ends, Waits, Shutdown}
use Rattle.tm_marker.specs.declared.service.Service.{Service}
use Rattle.tm_marker.specs.declared.service.Service.TheVariants.{ActivateTask, TerminateTask, ChainTask, GetTaskId, GetTaskState, GetResource, ReleaseResource, SetEvent, ClearEvent, GetEvent, WaitEvent, GetAlarm, SetRelAlarm, SetAbsAlarm, CancelAlarm, Send, Receive, ReadInput, WriteOutput, ShutdownOs}
use Rattle.tm_marker.specs.declared.entries.TheConstants.{PORTS}
use Rattle.tm_marker.specs.Service.{service_number, service_of}
use Rattle.tm_services.specs.declared.status.TheConstants.{E_OK, E_OS_ACCESS, E_OS_ID, E_OS_LIMIT, E_OS_NOFUNC, E_OS_RESOURCE, E_OS_STATE, E_OS_VALUE}
use Rattle.tm_services.specs.Ceilings.{holds, get_status, got, release_status, released}
use Rattle.tm_services.specs.Alarms.{left_status, left_ticks, set_rel_status, set_rel, set_abs_status, set_abs, cancel_status, cancelled}
use Rattle.tm_kernel.specs.declared.kernel.Answer.{Answer}
use Rattle.tm_kernel.specs.declared.kernel.Need.{Need}
use Rattle.tm_kernel.specs.declared.kernel.Need.TheVariants.{Goes, Leaves}
use Rattle.tm_kernel.specs.declared.kernel.TaskState.{TaskState}
use Rattle.tm_kernel.specs.declared.kernel.TaskState.TheVariants.{Suspended, Ready, Running, Waiting}
use Rattle.tm_kernel.specs.Mailboxes.{Message, send_status, put_last}
use Rattle.tm_kernel.specs.State.{KernelState, nobody, state_number, is_extended, events_of, awaited_by, stopped}

-- the kernel after a call, the caller's data entry, the output where one is made, and what becomes
-- of the caller
pub record Answered : Type 0 where
  pub kernel : KernelState
  pub entry : DataEntry
  pub output : Option OutputEntry
  pub need : Need

-- what the code returns, and the kernel that it leaves, are those of the answer
pub record IsAnswer (answered : Answered) (k : KernelState) (answer : Answer) : Type 0 where
  pub kernel : k ≡ answered.kernel
  pub entry : answer.entry ≡ answered.entry
  pub output : answer.output ≡ answered.output
  pub need : answer.need ≡ answered.need

-- an entry of a service's number, with no word named: all four words are 0
abbrev pub entry_of : ℕ → ℕ → DataEntry
entry_of number status = record { service = number; status = status; words = 0 ∷ 0 ∷ 0 ∷ 0 ∷ [] }

-- a call of a service that leaves the caller running, and names no word
abbrev pub goes_on : KernelState → Service → ℕ → Answered
goes_on k service status = record { kernel = k; entry = entry_of (service_number service) status; output = None; need = Goes }

-- a call of a service that names four words, and leaves the caller running
abbrev pub tells_words : KernelState → Service → List ℕ → Answered
tells_words k service words = record {
  kernel = k;
  entry = record { service = service_number service; status = E_OK; words = words };
  output = None;
  need = Goes;
}

-- a call of a service that names one word, and leaves the caller running
abbrev pub tells : KernelState → Service → ℕ → Answered
tells k service word = tells_words k service (word ∷ 0 ∷ 0 ∷ 0 ∷ [])

-- a call of a service by which the caller leaves the processor
abbrev pub leaves : KernelState → Service → Kind → Answered
leaves k service kind = record { kernel = k; entry = entry_of (service_number service) E_OK; output = None; need = Leaves kind }

-- a call of a service with this status: with E_OK it does what is given, and a refused call changes nothing
abbrev pub checked : KernelState → Service → ℕ → Answered → Answered
checked k service status done = if status == E_OK then done else goes_on k service status

-- the status of an activation: there must be such a task, and it must be suspended
abbrev pub activation : Option TaskState → ℕ
activation None = E_OS_ID
activation (Some Suspended) = E_OK
activation (Some Ready) = E_OS_LIMIT
activation (Some Running) = E_OS_LIMIT
activation (Some Waiting) = E_OS_LIMIT

-- the kernel after an activation: a suspended task becomes ready and its events are cleared (a basic
-- task has none); a refused one changes nothing
abbrev pub activated : KernelState → ℕ → KernelState
activated k task =
    if activation (slice_get k.states task) == E_OK
    then record k { states = slice_set k.states task Ready; events = slice_set k.events task 0 }
    else k

-- ActivateTask(task)
abbrev pub activate_task : KernelState → ℕ → Answered
activate_task k task = goes_on (activated k task) ActivateTask (activation (slice_get k.states task))

-- the kernel after the running task's end: the task is suspended, and nobody runs
abbrev pub suspended : KernelState → ℕ → KernelState
suspended k caller = record k { states = slice_set k.states caller Suspended; running = nobody }

-- a task that holds a resource may not end or wait
abbrev pub holding_status : KernelState → ℕ → ℕ
holding_status k caller = if holds k.ceilings caller then E_OS_RESOURCE else E_OK

-- TerminateTask()
abbrev pub terminate_task : KernelState → ℕ → Answered
terminate_task k caller = checked k TerminateTask (holding_status k caller) (leaves (suspended k caller) TerminateTask Ends)

-- the status of ChainTask: there must be such a task, the caller must hold no resource, and the task must
-- be the caller or suspended
abbrev pub chaining : KernelState → ℕ → ℕ → ℕ
chaining k caller task =
    if activation (slice_get k.states task) == E_OS_ID then E_OS_ID
    else (if holds k.ceilings caller then E_OS_RESOURCE
    else (if task == caller then E_OK else activation (slice_get k.states task)))

-- ChainTask(task): the caller is suspended, then the task is activated
abbrev pub chain_task : KernelState → ℕ → ℕ → Answered
chain_task k caller task = checked k ChainTask (chaining k caller task) (leaves (activated (suspended k caller) task) ChainTask Ends)

-- GetTaskID(): the word is the caller
abbrev pub get_task_id : KernelState → ℕ → Answered
get_task_id k caller = tells k GetTaskId caller

-- GetTaskState(task): the word is the state's number
abbrev pub get_task_state : KernelState → Option TaskState → Answered
get_task_state k None = goes_on k GetTaskState E_OS_ID
get_task_state k (Some state) = tells k GetTaskState (state_number state)

-- GetResource(res)
abbrev pub get_resource : KernelState → ℕ → ℕ → Answered
get_resource k caller res = goes_on (record k { ceilings = got k.ceilings caller res }) GetResource (get_status k.ceilings caller res)

-- ReleaseResource(res)
abbrev pub release_resource : KernelState → ℕ → ℕ → Answered
release_resource k caller res =
    goes_on (record k { ceilings = released k.ceilings caller res }) ReleaseResource (release_status k.ceilings caller res)

-- the status of a service on a task's events: there must be such a task, it must be extended, and it must
-- not be suspended
abbrev pub event_status_in : KernelState → ℕ → Option TaskState → ℕ
event_status_in k task None = E_OS_ID
event_status_in k task (Some Suspended) = if is_extended k task then E_OS_STATE else E_OS_ACCESS
event_status_in k task (Some Ready) = if is_extended k task then E_OK else E_OS_ACCESS
event_status_in k task (Some Running) = if is_extended k task then E_OK else E_OS_ACCESS
event_status_in k task (Some Waiting) = if is_extended k task then E_OK else E_OS_ACCESS

abbrev pub event_status : KernelState → ℕ → ℕ
event_status k task = event_status_in k task (slice_get k.states task)

-- a task's state after events were set, by what is then set among the events that it waits for
abbrev pub woken : Option TaskState → ℕ → List TaskState → ℕ → List TaskState
woken None set states task = states
woken (Some Suspended) set states task = states
woken (Some Ready) set states task = states
woken (Some Running) set states task = states
woken (Some Waiting) set states task = if set == 0 then states else slice_set states task Ready

-- the kernel with events of a task set; a waiting task of which an awaited event is set becomes ready
abbrev pub with_events : KernelState → ℕ → ℕ → KernelState
with_events k task mask =
    let events = bit_or (events_of k task) mask in
    record k {
      events = slice_set k.events task events;
      states = woken (slice_get k.states task) (bit_and events (awaited_by k task)) k.states task;
    }

-- the kernel after SetEvent; a refused one changes nothing
abbrev pub events_set : KernelState → ℕ → ℕ → KernelState
events_set k task mask = if event_status k task == E_OK then with_events k task mask else k

-- SetEvent(task, mask)
abbrev pub set_event : KernelState → ℕ → ℕ → Answered
set_event k task mask = goes_on (events_set k task mask) SetEvent (event_status k task)

-- a service on the caller's own events wants an extended caller
abbrev pub own_event_status : KernelState → ℕ → ℕ
own_event_status k caller = if is_extended k caller then E_OK else E_OS_ACCESS

-- the kernel with events of a task cleared
abbrev pub without_events : KernelState → ℕ → ℕ → KernelState
without_events k task mask = record k { events = slice_set k.events task (bit_and (events_of k task) (4294967295 - mask)) }

-- ClearEvent(mask)
abbrev pub clear_event : KernelState → ℕ → ℕ → Answered
clear_event k caller mask = checked k ClearEvent (own_event_status k caller) (goes_on (without_events k caller mask) ClearEvent E_OK)

-- GetEvent(task): the word is the mask of the events that are set
abbrev pub get_event : KernelState → ℕ → Answered
get_event k task = checked k GetEvent (event_status k task) (tells k GetEvent (events_of k task))

-- the status of WaitEvent: the caller must be extended and hold no resource, and the mask must name an event
abbrev pub wait_status : KernelState → ℕ → ℕ → ℕ
wait_status k caller mask =
    if not (is_extended k caller) then E_OS_ACCESS
    else (if holds k.ceilings caller then E_OS_RESOURCE
    else (if mask == 0 then E_OS_VALUE else E_OK))

-- the kernel in which the running task waits for the events of a mask, and nobody runs
abbrev pub waiting : KernelState → ℕ → ℕ → KernelState
waiting k caller mask = record k {
  states = slice_set k.states caller Waiting;
  awaited = slice_set k.awaited caller mask;
  running = nobody;
}

-- WaitEvent(mask): the caller goes on where an event of the mask is set, and waits for one otherwise
abbrev pub wait_event : KernelState → ℕ → ℕ → Answered
wait_event k caller mask = checked k WaitEvent (wait_status k caller mask)
    (if bit_and (events_of k caller) mask == 0 then leaves (waiting k caller mask) WaitEvent Waits else goes_on k WaitEvent E_OK)

-- GetAlarm(alarm): the word is the number of ticks left
abbrev pub get_alarm : KernelState → ℕ → Answered
get_alarm k alarm = checked k GetAlarm (left_status k.alarms alarm) (tells k GetAlarm (left_ticks k.alarms alarm))

-- SetRelAlarm(alarm, increment, cycle)
abbrev pub set_rel_alarm : KernelState → ℕ → ℕ → ℕ → Answered
set_rel_alarm k alarm increment cycle =
    goes_on (record k { alarms = set_rel k.alarms alarm increment cycle }) SetRelAlarm (set_rel_status k.alarms alarm increment cycle)

-- SetAbsAlarm(alarm, start, cycle)
abbrev pub set_abs_alarm : KernelState → ℕ → ℕ → ℕ → Answered
set_abs_alarm k alarm start cycle =
    goes_on (record k { alarms = set_abs k.alarms alarm start cycle }) SetAbsAlarm (set_abs_status k.alarms alarm start cycle)

-- CancelAlarm(alarm)
abbrev pub cancel_alarm : KernelState → ℕ → Answered
cancel_alarm k alarm = goes_on (record k { alarms = cancelled k.alarms alarm }) CancelAlarm (cancel_status k.alarms alarm)

-- the kernel with one more message in a box, the last
abbrev pub sent : KernelState → ℕ → Message → KernelState
sent k box message = record k { boxes = put_last k.boxes box message }

-- Send(box, w0, w1, w2, w3)
abbrev pub send : KernelState → ℕ → Message → Answered
send k box message =
    checked k Send (send_status k.spec.boxes box (slice_get k.boxes box)) (goes_on (sent k box message) Send E_OK)

-- Receive(box): the words are the box's first message, which is taken out
abbrev pub receive : KernelState → ℕ → Option (List Message) → Answered
receive k box None = goes_on k Receive E_OS_ID
receive k box (Some []) = goes_on k Receive E_OS_NOFUNC
receive k box (Some (first ∷ rest)) = tells_words (record k { boxes = slice_set k.boxes box rest }) Receive first

-- the status of a service on a port: there must be such a port
abbrev pub port_status : ℕ → ℕ
port_status port = if nat_lt port PORTS then E_OK else E_OS_ID

-- ReadInput(port): the word is the latched word of the port
abbrev pub read_input : KernelState → ℕ → Answered
read_input k port = checked k ReadInput (port_status port) (tells k ReadInput (slice_index k.ports port))

-- a call that makes one output, and leaves the caller running
abbrev pub writes : KernelState → Service → OutputEntry → Answered
writes k service output = record { kernel = k; entry = entry_of (service_number service) E_OK; output = Some output; need = Goes }

-- WriteOutput(port, value)
abbrev pub write_output : KernelState → ℕ → ℕ → ℕ → Answered
write_output k caller port value = checked k WriteOutput (port_status port)
    (writes k WriteOutput (record { task = caller; port = port; value = value }))

-- ShutdownOS(code): the run ends
abbrev pub shutdown_os : KernelState → Answered
shutdown_os k = leaves (stopped k false) ShutdownOs Shutdown

-- the answer to a call of a service: the table's rows
abbrev pub served : KernelState → ℕ → List ℕ → Service → Answered
served k caller args ActivateTask = activate_task k (slice_index args 0)
served k caller args TerminateTask = terminate_task k caller
served k caller args ChainTask = chain_task k caller (slice_index args 0)
served k caller args GetTaskId = get_task_id k caller
served k caller args GetTaskState = get_task_state k (slice_get k.states (slice_index args 0))
served k caller args GetResource = get_resource k caller (slice_index args 0)
served k caller args ReleaseResource = release_resource k caller (slice_index args 0)
served k caller args SetEvent = set_event k (slice_index args 0) (slice_index args 1)
served k caller args ClearEvent = clear_event k caller (slice_index args 0)
served k caller args GetEvent = get_event k (slice_index args 0)
served k caller args WaitEvent = wait_event k caller (slice_index args 0)
served k caller args GetAlarm = get_alarm k (slice_index args 0)
served k caller args SetRelAlarm = set_rel_alarm k (slice_index args 0) (slice_index args 1) (slice_index args 2)
served k caller args SetAbsAlarm = set_abs_alarm k (slice_index args 0) (slice_index args 1) (slice_index args 2)
served k caller args CancelAlarm = cancel_alarm k (slice_index args 0)
served k caller args Send = send k (slice_index args 0) (take 4 (drop 1 args))
served k caller args Receive = receive k (slice_index args 0) (slice_get k.boxes (slice_index args 0))
served k caller args ReadInput = read_input k (slice_index args 0)
served k caller args WriteOutput = write_output k caller (slice_index args 0) (slice_index args 1)
served k caller args ShutdownOs = shutdown_os k

-- the answer to a call of a number that no service has
abbrev pub unserved : KernelState → ℕ → Answered
unserved k number = record { kernel = k; entry = entry_of number E_OS_NOFUNC; output = None; need = Goes }

-- the answer to a call of a number, by the service that has it
abbrev pub answer_by : KernelState → ℕ → ℕ → List ℕ → Option Service → Answered
answer_by k caller number args None = unserved k number
answer_by k caller number args (Some service) = served k caller args service

-- the answer to a call
abbrev pub answer : KernelState → ℕ → ℕ → List ℕ → Answered
answer k caller number args = answer_by k caller number args (service_of number)
