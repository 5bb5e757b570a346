-- How a run stands at a moment: who runs, and whether it has ended.
use Rattle.std.specs.Prelude.{◌≡◌, ℕ, ◌<◌, ◌⊎◌}
use Rattle.tm_marker.specs.declared.marker.Marker.{Marker}
use Rattle.tm_marker.specs.declared.tail.TheConstants.{NOBODY, GOES_ON, FAULTED, SHUT_DOWN}
use Rattle.tm_marker.specs.declared.entries.Kind.{Kind}
use Rattle.tm_marker.specs.declared.entries.Kind.TheVariants.{Preempted, Waits, Ends, Fault, Shutdown, Idle}

-- the number that stands for no task
abbrev pub nobody : ℕ
nobody = NOBODY

-- the marker of nobody, and of a task that did nothing
abbrev pub zero_marker : Marker
zero_marker = record { epoch = 0; count = 0; pc = 0 }

-- one of so many tasks, or nobody
abbrev pub IsTaskOrNobody : ℕ → ℕ → Type 0
IsTaskOrNobody tasks task = (task ≡ nobody) ⊎ (task < tasks)

-- how the run stands after an entry of this kind
abbrev pub ended_by : Kind → ℕ
ended_by Preempted = GOES_ON
ended_by Waits = GOES_ON
ended_by Ends = GOES_ON
ended_by Fault = FAULTED
ended_by Shutdown = SHUT_DOWN
ended_by Idle = GOES_ON
