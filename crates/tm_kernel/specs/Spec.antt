-- When a kernel can be made of a specification.
use Rattle.std.specs.Prelude.{◌≢◌, ℕ, ◌^◌, ◌<◌, ◌≤◌, length, All, AllPairs}
use Rattle.tm_marker.specs.declared.shape.TheConstants.{MOST_TASKS}
use Rattle.tm_kernel.specs.declared.spec.TheConstants.{MOST_RESOURCES, MOST_ALARMS, MOST_BOXES, MOST_MESSAGES}
use Rattle.tm_kernel.specs.declared.spec.Action.{Action}
use Rattle.tm_kernel.specs.declared.spec.Action.TheVariants.{Nothing, Tick, Activate, Event}
use Rattle.tm_kernel.specs.declared.spec.KernelSpec.{KernelSpec}

-- an action of a line names a task below the number of tasks, where it names one
abbrev pub IsLineAction : ℕ → Action → Type 0
IsLineAction tasks Nothing = Unit {0}
IsLineAction tasks Tick = Unit {0}
IsLineAction tasks (Activate t) = t < tasks
IsLineAction tasks (Event t mask) = t < tasks

-- an alarm activates a task or sets its events
abbrev pub IsAlarmAction : ℕ → Action → Type 0
IsAlarmAction tasks Nothing = ⊥
IsAlarmAction tasks Tick = ⊥
IsAlarmAction tasks (Activate t) = t < tasks
IsAlarmAction tasks (Event t mask) = t < tasks

-- a task, and no more of tasks, resources, alarms and boxes than there may be; distinct priorities from 1 to
-- 255; each resource has a declared user; each box has room for a message, and no more room than it may have;
-- each action names a task that there is
pub record IsKernelSpec (spec : KernelSpec) : Type 0 where
  pub some_task : 0 < length spec.tasks
  pub few_tasks : length spec.tasks ≤ MOST_TASKS
  pub priorities : All (λ t. 0 < t.priority) spec.tasks
  pub small : All (λ t. t.priority < 256) spec.tasks
  pub distinct : AllPairs (λ s t. s.priority ≢ t.priority) spec.tasks
  pub few_resources : length spec.users ≤ MOST_RESOURCES
  pub users : All (λ mask. (0 < mask) × (mask < 2 ^ length spec.tasks)) spec.users
  pub few_alarms : length spec.alarms ≤ MOST_ALARMS
  pub alarms : All (IsAlarmAction (length spec.tasks)) spec.alarms
  pub few_boxes : length spec.boxes ≤ MOST_BOXES
  pub boxes : All (λ capacity. (0 < capacity) × (capacity ≤ MOST_MESSAGES)) spec.boxes
  pub lines : All (IsLineAction (length spec.tasks)) spec.lines
