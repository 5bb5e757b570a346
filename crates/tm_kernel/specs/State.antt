-- A kernel, as a record of plain lists (tasks, events, resources, alarms: OSEK/VDX OS 2.2.3, 4, 7, 8, 9).
use Rattle.std.specs.Prelude.{◌≡◌, ℕ, ◌<◌, ◌≤◌, ◌-◌, ◌⊎◌, ◌==◌, Bool, false, if◌then◌else◌, List, [], ◌++◌, map, length, replicate, slice_get, slice_set, Some, option_map, unwrap_or, All}
use Rattle.tm_marker.specs.declared.entries.TheConstants.{PORTS}
use Rattle.tm_marker.specs.declared.tail.TheConstants.{GOES_ON, FAULTED, SHUT_DOWN, SUSPENDED, READY, RUNNING, WAITING}
pub use Rattle.tm_marker.specs.Tail.{nobody}
use Rattle.tm_services.specs.Ceilings.{CeilingsView, IsCeilings, nothing_held}
use Rattle.tm_services.specs.Alarms.{AlarmsView, IsAlarms, all_off}
use Rattle.tm_kernel.specs.declared.kernel.TaskState.{TaskState}
use Rattle.tm_kernel.specs.declared.kernel.TaskState.TheVariants.{Suspended, Ready, Running, Waiting}
use Rattle.tm_kernel.specs.declared.spec.KernelSpec.{KernelSpec}
use Rattle.tm_kernel.specs.Spec.{IsKernelSpec}
use Rattle.tm_kernel.specs.Mailboxes.{Message}

-- the specification; for each task its state, its events that are set and those that it waits for, as
-- masks; the resources that each task holds; the alarms and their counter; each box's messages, oldest
-- first; the latched words of the input ports; the running task or nobody; and whether the run goes on or
-- has ended, and by what
pub record KernelState : Type 0 where
  pub spec : KernelSpec
  pub states : List TaskState
  pub events : List ℕ
  pub awaited : List ℕ
  pub ceilings : CeilingsView
  pub alarms : AlarmsView
  pub boxes : List (List Message)
  pub ports : List ℕ
  pub running : ℕ
  pub ended : ℕ

-- the numbers of the states
abbrev pub state_number : TaskState → ℕ
state_number Suspended = SUSPENDED
state_number Ready = READY
state_number Running = RUNNING
state_number Waiting = WAITING

-- a task's state at boot
abbrev pub boot_state : Bool → TaskState
boot_state auto = if auto then Ready else Suspended

-- a list of at most 16 numbers with 0 in each place that is left of 16
abbrev pub padded : List ℕ → List ℕ
padded xs = xs ++ replicate (16 - length xs) 0

-- at boot no resource is held
abbrev pub boot_ceilings : KernelSpec → CeilingsView
boot_ceilings spec = nothing_held (padded (map (λ t. t.priority) spec.tasks)) (padded spec.users) (length spec.users)

-- at boot every alarm is off, and the counter is 0
abbrev pub boot_alarms : KernelSpec → AlarmsView
boot_alarms spec = all_off (length spec.alarms)

-- at boot autostart tasks are ready, the others suspended, and nobody runs; no event is set, no resource
-- held, no alarm in use, every box empty, and every latched word 0
abbrev pub booted : KernelSpec → KernelState
booted spec = record {
  spec = spec;
  states = map (λ t. boot_state t.auto) spec.tasks;
  events = replicate (length spec.tasks) 0;
  awaited = replicate (length spec.tasks) 0;
  ceilings = boot_ceilings spec;
  alarms = boot_alarms spec;
  boxes = replicate (length spec.boxes) [];
  ports = replicate PORTS 0;
  running = nobody;
  ended = GOES_ON;
}

-- the task is an extended one
abbrev pub is_extended : KernelState → ℕ → Bool
is_extended k task = unwrap_or (option_map (λ t. t.extended) (slice_get k.spec.tasks task)) false

-- the events of a task that are set, as a mask
abbrev pub events_of : KernelState → ℕ → ℕ
events_of k task = unwrap_or (slice_get k.events task) 0

-- the events that a task waits for, as a mask
abbrev pub awaited_by : KernelState → ℕ → ℕ
awaited_by k task = unwrap_or (slice_get k.awaited task) 0

-- the states when nobody runs: the running task, where there is one, is ready
abbrev pub paused : KernelState → List TaskState
paused k = if k.running == nobody then k.states else slice_set k.states k.running Ready

-- a run's end, by a fault or by a shutdown: the running task becomes ready, and nobody runs
abbrev pub stopped : KernelState → Bool → KernelState
stopped k fault = record k { states = paused k; running = nobody; ended = if fault then FAULTED else SHUT_DOWN }

-- the task is the running one
pub record IsRunning (k : KernelState) (task : ℕ) : Type 0 where
  pub runs : k.running ≡ task
  pub there : task < length k.states

-- a box keeps at most as many messages as its capacity, each of four words
pub record IsBox (capacity : ℕ) (messages : List Message) : Type 0 where
  pub few : length messages ≤ capacity
  pub words : All (λ m. length m ≡ 4) messages

-- what every kernel keeps: each task has one state and its masks of events, and the running task alone is
-- in the state running; the resources, alarms and boxes are those of the specification
pub record IsKernel (k : KernelState) : Type 0 where
  pub spec : IsKernelSpec k.spec
  pub states : length k.states ≡ length k.spec.tasks
  pub events : length k.events ≡ length k.spec.tasks
  pub awaited : length k.awaited ≡ length k.spec.tasks
  pub ceilings : IsCeilings k.ceilings
  pub priorities : k.ceilings.priorities ≡ padded (map (λ t. t.priority) k.spec.tasks)
  pub users : k.ceilings.users ≡ padded k.spec.users
  pub resources : k.ceilings.resources ≡ length k.spec.users
  pub alarms : IsAlarms k.alarms
  pub alarm_number : length k.alarms.alarms ≡ length k.spec.alarms
  pub box_number : length k.boxes ≡ length k.spec.boxes
  pub boxes : (box capacity : ℕ) (messages : List Message) → slice_get k.spec.boxes box ≡ Some capacity →
      slice_get k.boxes box ≡ Some messages → IsBox capacity messages
  pub running : (k.running ≡ nobody) ⊎ (slice_get k.states k.running ≡ Some Running)
  pub alone : (t : ℕ) → slice_get k.states t ≡ Some Running → k.running ≡ t
  pub ended : k.ended ≤ SHUT_DOWN
