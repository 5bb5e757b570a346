-- Why a declared user never finds a resource held by another task.
--
-- Holders are nested: of two tasks that hold resources, one has a static priority above the other's current
-- priority. A task gets its first resource while it is the picked task, so its priority is above that of
-- every holder, which can run and would go first among equals; and while it holds, no holder below it runs,
-- so none below it gets more. A task that is picked while another holds a resource that it uses would need a
-- priority above the ceiling of that resource, which is no less than its own.
use Rattle.std.specs.Prelude.{◌≡◌, ◌≢◌, ℕ, ◌<◌, ◌⊎◌, Bool, true, List, slice_index, Contains}
use Rattle.tm_marker.specs.declared.service.Service.TheVariants.{GetResource}
use Rattle.tm_marker.specs.Service.{service_number}
use Rattle.tm_marker.specs.declared.tail.TheConstants.{GOES_ON}
use Rattle.tm_services.specs.Ceilings.{current, holds, is_user, held_by}
use Rattle.tm_services.specs.declared.status.TheConstants.{E_OS_ACCESS}
use Rattle.tm_kernel.specs.declared.spec.KernelSpec.{KernelSpec}
use Rattle.tm_kernel.specs.Spec.{IsKernelSpec}
use Rattle.tm_kernel.specs.State.{KernelState, IsKernel, IsRunning, nobody, booted, stopped}
use Rattle.tm_kernel.specs.Service.{answer}
use Rattle.tm_kernel.specs.Schedule.{pick, rescheduled, arrived}
use Rattle.tm_kernel.specs.Laws.{CanRun}

-- a task's static priority
abbrev pub static_of : KernelState → ℕ → ℕ
static_of k task = slice_index k.ceilings.priorities task

-- the task has a static priority above all that the other's resources give it
abbrev pub IsAbove : KernelState → ℕ → ℕ → Type 0
IsAbove k task other = current k.ceilings other < static_of k task

-- every task that holds a resource can run, and of two holders one is above the other
pub record IsNested (k : KernelState) : Type 0 where
  pub can_run : (task : ℕ) → holds k.ceilings task ≡ true → CanRun k task
  pub nested : (task other : ℕ) → task ≢ other → holds k.ceilings task ≡ true → holds k.ceilings other ≡ true →
      IsAbove k task other ⊎ IsAbove k other task

-- so no two holders have the same current priority
abbrev pub HoldersDiffer : Type 0
HoldersDiffer = (k : KernelState) (task other : ℕ) → IsNested k → task ≢ other → holds k.ceilings task ≡ true →
    holds k.ceilings other ≡ true → current k.ceilings task ≢ current k.ceilings other

-- the running task, where there is one, is the picked one
abbrev pub IsSettled : KernelState → Type 0
IsSettled k = k.running ≢ nobody → k.running ≡ pick k

-- after the end of the run nobody runs
abbrev pub IsIdleAtEnd : KernelState → Type 0
IsIdleAtEnd k = k.ended ≢ GOES_ON → k.running ≡ nobody

-- at boot no task holds a resource
abbrev pub BootIsNested : Type 0
BootIsNested = (spec : KernelSpec) → IsKernelSpec spec → IsNested (booted spec)

-- a call of the running task, which is the picked one, keeps holders nested
abbrev pub CallKeepsNested : Type 0
CallKeepsNested = (k : KernelState) (task service : ℕ) (args : List ℕ) → IsKernel k → IsNested k → IsSettled k →
    IsRunning k task → IsNested (answer k task service args).kernel

-- so does an arrival
abbrev pub ArrivalKeepsNested : Type 0
ArrivalKeepsNested = (k : KernelState) (mask : ℕ) (ports : List ℕ) → IsKernel k → IsNested k → IsNested (arrived k mask ports)

-- so does a rescheduling
abbrev pub ReschedulingKeepsNested : Type 0
ReschedulingKeepsNested = (k : KernelState) → IsKernel k → IsNested k → IsNested (rescheduled k)

-- so does the end of a run
abbrev pub StopKeepsNested : Type 0
StopKeepsNested = (k : KernelState) (fault : Bool) → IsKernel k → IsNested k → IsNested (stopped k fault)

-- after a rescheduling the running task is the picked one; while the run goes on, nobody runs only where
-- nobody is picked, and after its end nobody runs
pub record ReschedulingSettles (k : KernelState) : Type 0 where
  pub settled : IsSettled (rescheduled k)
  pub nobody_waits : k.ended ≡ GOES_ON → (rescheduled k).running ≡ nobody → pick (rescheduled k) ≡ nobody
  pub idle : IsIdleAtEnd (rescheduled k)

abbrev pub EveryReschedulingSettles : Type 0
EveryReschedulingSettles = (k : KernelState) → IsKernel k → IsIdleAtEnd k → ReschedulingSettles k

-- a declared user that runs never finds a resource held by another task
abbrev pub UsersNeverBlock : Type 0
UsersNeverBlock = (k : KernelState) (task res other : ℕ) → IsKernel k → IsNested k → IsSettled k → IsRunning k task →
    res < k.ceilings.resources → is_user (slice_index k.ceilings.users res) task ≡ true →
    other ≢ task → Contains (held_by k.ceilings other) res → ⊥

-- a declared user that calls GetResource, and is refused with E_OS_ACCESS, holds the resource itself
abbrev pub RefusedUserHolds : KernelState → ℕ → ℕ → List ℕ → ℕ → Type 0
RefusedUserHolds k task service args status =
    service ≡ service_number GetResource → is_user (slice_index k.ceilings.users (slice_index args 0)) task ≡ true → status ≡ E_OS_ACCESS →
    Contains (held_by k.ceilings task) (slice_index args 0)

-- so the only refusal of a declared user for want of access is that of its own second request
abbrev pub RefusedUsersHold : Type 0
RefusedUsersHold = (k : KernelState) (task service : ℕ) (args : List ℕ) → IsKernel k → IsNested k → IsSettled k → IsRunning k task →
    RefusedUserHolds k task service args (answer k task service args).entry.status
