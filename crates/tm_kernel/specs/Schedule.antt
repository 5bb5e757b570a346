-- Who runs next, and what an interrupt does.
use Rattle.std.specs.Prelude.{ℕ, ◌+◌, ◌/◌, ◌%◌, ◌^◌, Bool, ◌==◌, ◌&&◌, if◌then◌else◌, List, [], ◌∷◌, map, fold, position, slice_set, Option, unwrap_or, max}
use Rattle.tm_marker.specs.declared.tail.TheConstants.{GOES_ON}
use Rattle.tm_services.specs.Ceilings.{CeilingsView, current, holds}
use Rattle.tm_services.specs.Alarms.{ticked, due}
use Rattle.tm_kernel.specs.declared.spec.Action.{Action}
use Rattle.tm_kernel.specs.declared.spec.Action.TheVariants.{Nothing, Tick, Activate, Event}
use Rattle.tm_kernel.specs.declared.kernel.claim.Claim.{Claim}
use Rattle.tm_kernel.specs.declared.kernel.TaskState.{TaskState}
use Rattle.tm_kernel.specs.declared.kernel.TaskState.TheVariants.{Suspended, Ready, Running, Waiting}
use Rattle.tm_kernel.specs.State.{KernelState, nobody, paused}
use Rattle.tm_kernel.specs.Service.{activated, events_set}

-- a task's claim to the processor, by its state: its current priority where it can run and else 0, and
-- whether it holds a resource
abbrev pub claim : CeilingsView → ℕ → TaskState → Claim
claim c task Suspended = record { priority = 0; holder = holds c task }
claim c task Ready = record { priority = current c task; holder = holds c task }
claim c task Running = record { priority = current c task; holder = holds c task }
claim c task Waiting = record { priority = 0; holder = holds c task }

-- the claims of the tasks in these states, the first being the task of this number
abbrev pub claims_from : CeilingsView → ℕ → List TaskState → List Claim
claims_from c task [] = []
claims_from c task (s ∷ ss) = claim c task s ∷ claims_from c (task + 1) ss

-- the claims of all tasks
abbrev pub claims : KernelState → List Claim
claims k = claims_from k.ceilings 0 k.states

-- the greatest current priority of the tasks that can run, and 0 where none can
abbrev pub greatest : List Claim → ℕ
greatest cs = fold max 0 (map (λ c. c.priority) cs)

-- the place of the first claim of this priority that a holder of a resource has
abbrev pub first_holder : ℕ → List Claim → Option ℕ
first_holder priority cs = position (λ c. c.priority == priority && c.holder) cs

-- the place of the first claim of this priority
abbrev pub first_claim : ℕ → List Claim → Option ℕ
first_claim priority cs = position (λ c. c.priority == priority) cs

-- the place of the greatest claim: among equal priorities a holder's, else the first
abbrev pub pick_of : List Claim → ℕ
pick_of cs =
    if greatest cs == 0 then nobody
    else unwrap_or (first_holder (greatest cs) cs) (unwrap_or (first_claim (greatest cs) cs) nobody)

-- the ready or running task of greatest current priority, the holder of a resource among equals, or nobody
-- (OSEK/VDX OS 2.2.3, 4.6.5 and 8.5)
abbrev pub pick : KernelState → ℕ
pick k = pick_of (claims k)

-- the task runs, and another that ran before is ready
abbrev pub run_task : KernelState → ℕ → KernelState
run_task k task = record k { states = slice_set (paused k) task Running; running = task }

-- one rescheduling, while the run goes on: the picked task runs, where there is one
abbrev pub rescheduled : KernelState → KernelState
rescheduled k = if k.ended == GOES_ON then (if pick k == nobody then k else run_task k (pick k)) else k

-- what an alarm or a line does to the tasks; an action that would be refused has no effect
abbrev pub acted : KernelState → Action → KernelState
acted k Nothing = k
acted k Tick = k
acted k (Activate task) = activated k task
acted k (Event task mask) = events_set k task mask

-- the actions of the alarms that are due, in rising alarm
abbrev pub due_actions : List Bool → List Action → List Action
due_actions [] actions = []
due_actions (d ∷ ds) [] = []
due_actions (d ∷ ds) (a ∷ as') = if d then a ∷ due_actions ds as' else due_actions ds as'

-- one tick: every alarm counts down by one, then the actions of those that are due are performed
abbrev pub tick : KernelState → KernelState
tick k = fold acted (record k { alarms = ticked k.alarms }) (due_actions (due k.alarms) k.spec.alarms)

-- an action of a line
abbrev pub performed : KernelState → Action → KernelState
performed k Nothing = k
performed k Tick = tick k
performed k (Activate task) = activated k task
performed k (Event task mask) = events_set k task mask

-- the actions of the lines whose bits are set in a mask, in rising line; the first action is that of `line`
abbrev pub raised_actions : ℕ → ℕ → List Action → List Action
raised_actions mask line [] = []
raised_actions mask line (a ∷ as') =
    if mask / 2 ^ line % 2 == 1 then a ∷ raised_actions mask (line + 1) as' else raised_actions mask (line + 1) as'

-- an arrival, without the rescheduling: the ports are latched, then the actions of the mask's lines follow
abbrev pub arrived : KernelState → ℕ → List ℕ → KernelState
arrived k mask ports = fold performed (record k { ports = ports }) (raised_actions mask 0 k.spec.lines)
