-- What holds of every kernel, whatever it is asked.
use Rattle.std.specs.Prelude.{◌≡◌, ◌≢◌, ℕ, ◌<◌, ◌≤◌, ◌⊎◌, Bool, List, length, slice_get, Some}
use Rattle.tm_marker.specs.declared.entries.Kind.{Kind}
use Rattle.tm_marker.specs.declared.entries.Kind.TheVariants.{Preempted, Waits, Ends, Fault, Shutdown, Idle}
use Rattle.tm_marker.specs.declared.tail.TheConstants.{GOES_ON, FAULTED, SHUT_DOWN}
use Rattle.tm_services.specs.Ceilings.{current}
use Rattle.tm_services.specs.declared.status.TheConstants.{E_OK}
use Rattle.tm_kernel.specs.declared.kernel.Need.TheVariants.{Goes, Leaves}
use Rattle.tm_kernel.specs.declared.kernel.TaskState.TheVariants.{Ready, Running}
use Rattle.tm_kernel.specs.declared.spec.KernelSpec.{KernelSpec}
use Rattle.tm_kernel.specs.Spec.{IsKernelSpec}
use Rattle.tm_kernel.specs.State.{KernelState, IsKernel, IsRunning, nobody, booted, stopped}
use Rattle.tm_kernel.specs.Service.{answer}
use Rattle.tm_kernel.specs.Schedule.{pick, run_task, rescheduled, arrived}

-- the task is ready or running
abbrev pub CanRun : KernelState → ℕ → Type 0
CanRun k task = (slice_get k.states task ≡ Some Ready) ⊎ (slice_get k.states task ≡ Some Running)

-- the task can run, and none that can run has a greater current priority
pub record IsGreatest (k : KernelState) (task : ℕ) : Type 0 where
  pub there : task < length k.spec.tasks
  pub can_run : CanRun k task
  pub greatest : (other : ℕ) → CanRun k other → current k.ceilings other ≤ current k.ceilings task

-- what every kernel keeps holds at boot
abbrev pub BootIsKernel : Type 0
BootIsKernel = (spec : KernelSpec) → IsKernelSpec spec → IsKernel (booted spec)

-- a call keeps it
abbrev pub CallKeeps : Type 0
CallKeeps = (k : KernelState) (task service : ℕ) (args : List ℕ) → length args ≡ 6 → IsKernel k → IsRunning k task →
    IsKernel (answer k task service args).kernel

-- an arrival keeps it
abbrev pub ArrivalKeeps : Type 0
ArrivalKeeps = (k : KernelState) (mask : ℕ) (ports : List ℕ) → IsKernel k → IsKernel (arrived k mask ports)

-- to run the picked task keeps it
abbrev pub RunKeeps : Type 0
RunKeeps = (k : KernelState) → IsKernel k → pick k ≢ nobody → IsKernel (run_task k (pick k))

-- a rescheduling keeps it
abbrev pub ReschedulingKeeps : Type 0
ReschedulingKeeps = (k : KernelState) → IsKernel k → IsKernel (rescheduled k)

-- the end of a run keeps it
abbrev pub StopKeeps : Type 0
StopKeeps = (k : KernelState) (fault : Bool) → IsKernel k → IsKernel (stopped k fault)

-- the picked task, where there is one, is the greatest of those that can run
abbrev pub PicksGreatest : Type 0
PicksGreatest = (k : KernelState) → IsKernel k → pick k ≢ nobody → IsGreatest k (pick k)

-- somebody is picked where a task can run
abbrev pub PicksSomebody : Type 0
PicksSomebody = (k : KernelState) (task : ℕ) → IsKernel k → CanRun k task → pick k ≢ nobody

-- after a rescheduling, while the run goes on, the picked task runs; where nobody is picked, nobody runs
abbrev pub RunsThePick : Type 0
RunsThePick = (k : KernelState) → IsKernel k → k.ended ≡ GOES_ON → (rescheduled k).running ≡ pick k

-- after a rescheduling nobody runs, or a task that there is
abbrev pub RunsATask : Type 0
RunsATask = (k : KernelState) → IsKernel k →
    ((rescheduled k).running ≡ nobody) ⊎ ((rescheduled k).running < length k.spec.tasks)

-- a rescheduling changes only who runs
pub record SameButStates (old new : KernelState) : Type 0 where
  pub spec : new.spec ≡ old.spec
  pub events : new.events ≡ old.events
  pub awaited : new.awaited ≡ old.awaited
  pub ceilings : new.ceilings ≡ old.ceilings
  pub alarms : new.alarms ≡ old.alarms
  pub boxes : new.boxes ≡ old.boxes
  pub ports : new.ports ≡ old.ports
  pub ended : new.ended ≡ old.ended

abbrev pub ReschedulingSameRest : Type 0
ReschedulingSameRest = (k : KernelState) → SameButStates k (rescheduled k)

-- where a task runs, one runs after a rescheduling
abbrev pub GoesOnRunning : Type 0
GoesOnRunning = (k : KernelState) → IsKernel k → k.running ≢ nobody → (rescheduled k).running ≢ nobody

-- an arrival never leaves a task for nobody
abbrev pub ArrivalGoesOn : Type 0
ArrivalGoesOn = (k : KernelState) (mask : ℕ) (ports : List ℕ) → IsKernel k → k.running ≢ nobody →
    (rescheduled (arrived k mask ports)).running ≢ nobody

-- what an arrival leaves as it was, and the words that it latches
pub record SameInArrival (old : KernelState) (words : List ℕ) (new : KernelState) : Type 0 where
  pub spec : new.spec ≡ old.spec
  pub ceilings : new.ceilings ≡ old.ceilings
  pub boxes : new.boxes ≡ old.boxes
  pub running : new.running ≡ old.running
  pub ended : new.ended ≡ old.ended
  pub ports : new.ports ≡ words

abbrev pub ArrivalLatches : Type 0
ArrivalLatches = (k : KernelState) (mask : ℕ) (ports : List ℕ) → SameInArrival k ports (arrived k mask ports)

-- a call leaves the specification and the latched words as they were
pub record SameInCall (old new : KernelState) : Type 0 where
  pub spec : new.spec ≡ old.spec
  pub ports : new.ports ≡ old.ports

abbrev pub CallSameRest : Type 0
CallSameRest = (k : KernelState) (task service : ℕ) (args : List ℕ) → SameInCall k (answer k task service args).kernel

-- the entry of an answer has the called service's number
abbrev pub CallNamesService : Type 0
CallNamesService = (k : KernelState) (task service : ℕ) (args : List ℕ) → (answer k task service args).entry.service ≡ service

-- a caller that goes on is the running task still, the run goes on, and somebody runs after the rescheduling
pub record GoesOn (k : KernelState) (task : ℕ) (new : KernelState) : Type 0 where
  pub running : IsRunning new task
  pub ended : new.ended ≡ k.ended
  pub somebody : (rescheduled new).running ≢ nobody

abbrev pub CallGoesOn : Type 0
CallGoesOn = (k : KernelState) (task service : ℕ) (args : List ℕ) → length args ≡ 6 → IsKernel k → IsRunning k task →
    (answer k task service args).need ≡ Goes → GoesOn k task (answer k task service args).kernel

-- how a caller leaves the processor: it waits, and is not the next to run; or it ends; or it shut the
-- system down, and nobody runs any more. By no other kind does a call leave the processor.
abbrev pub LeavesBy : Kind → KernelState → ℕ → KernelState → Type 0
LeavesBy Waits k task new = (new.ended ≡ k.ended) × ((rescheduled new).running ≢ task)
LeavesBy Ends k task new = new.ended ≡ k.ended
LeavesBy Shutdown k task new = (new.ended ≡ SHUT_DOWN) × ((rescheduled new).running ≡ nobody)
LeavesBy Preempted k task new = ⊥
LeavesBy Fault k task new = ⊥
LeavesBy Idle k task new = ⊥

-- a caller that leaves does so by one of these kinds, and nobody runs until the rescheduling
abbrev pub CallLeaves : Type 0
CallLeaves = (k : KernelState) (task service : ℕ) (args : List ℕ) (kind : Kind) → length args ≡ 6 → IsKernel k → IsRunning k task →
    (answer k task service args).need ≡ Leaves kind →
    ((answer k task service args).kernel.running ≡ nobody) × LeavesBy kind k task (answer k task service args).kernel

-- a refused call changes nothing, and its caller goes on
abbrev pub RefusalChangesNothing : Type 0
RefusalChangesNothing = (k : KernelState) (task service : ℕ) (args : List ℕ) →
    (answer k task service args).entry.status ≢ E_OK →
    ((answer k task service args).kernel ≡ k) × ((answer k task service args).need ≡ Goes)

-- after the end nobody runs, the run has ended, and the task that ran is ready
abbrev pub StopEnds : Type 0
StopEnds = (k : KernelState) (fault : Bool) → IsKernel k → k.running ≢ nobody →
    ((stopped k fault).running ≡ nobody) ×
    (((stopped k fault).ended ≡ FAULTED) ⊎ ((stopped k fault).ended ≡ SHUT_DOWN)) ×
    (slice_get (stopped k fault).states k.running ≡ Some Ready)
