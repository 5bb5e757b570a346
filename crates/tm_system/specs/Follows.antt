-- What a run is, apart from the script that played it: boot, and moments that each follow.
use Rattle.std.specs.Prelude.{◌≡◌, ◌≢◌, ℕ, ◌<◌, ◌⊎◌, Bool, [], ◌∷◌, length, slice_set, Option, Some, None, option_to_list}
use Rattle.tm_marker.specs.declared.entries.DataEntry.{DataEntry}
use Rattle.tm_marker.specs.declared.entries.OutputEntry.{OutputEntry}
use Rattle.tm_marker.specs.declared.entries.Kind.{Kind}
use Rattle.tm_marker.specs.declared.entries.Kind.TheVariants.{Preempted, Waits, Ends, Fault, Shutdown, Idle}
use Rattle.tm_task.specs.declared.outcome.Cause.{Cause}
use Rattle.tm_task.specs.Exec.{Faults, Calls, Goes, exec}
use Rattle.tm_task.specs.Standing.{reply}
use Rattle.tm_task.specs.Place.{output_of}
use Rattle.tm_kernel.specs.State.{nobody}
use Rattle.tm_image.specs.Image.{ImageView, entry_of, text_of}
use Rattle.tm_system.specs.History.{Deed, Arrives, Steps, Answers, Faulted, Moment, History}
use Rattle.tm_system.specs.Run.{now, running_at, body_at}

-- an arrival leaves every body, and never leaves a task for nobody
pub record IsArrival (image : ImageView) (h : History) (m : Moment) : Type 0 where
  pub bodies : m.after.bodies ≡ (now image h).bodies
  pub leaves : m.leaves ≡ None
  pub keeps : running_at image h ≢ nobody → m.after.kernel.running ≢ nobody
  pub ended : m.after.kernel.ended ≡ 0

-- the task is the running one, and one of the image's
pub record IsTurnOf (image : ImageView) (h : History) (task : ℕ) : Type 0 where
  pub runs : running_at image h ≡ task
  pub there : task < length image.loads

-- an instruction goes on in its task alone
pub record IsStep (image : ImageView) (h : History) (m : Moment) (task : ℕ) (back : Bool) : Type 0 where
  pub turn : IsTurnOf image h task
  pub executes : exec (text_of image task) (body_at image h task) ≡ Goes (body_at image (m ∷ h) task) back
  pub bodies : m.after.bodies ≡ slice_set (now image h).bodies task (body_at image (m ∷ h) task)
  pub leaves : m.leaves ≡ None
  pub kernel : m.after.kernel ≡ (now image h).kernel

-- who may run after a call, by why the caller left: somebody where it goes on, another where it waits,
-- anybody where it ends, nobody after a shutdown
abbrev pub CanRunNext : Option Kind → ℕ → ℕ → Type 0
CanRunNext None caller next = next ≢ nobody
CanRunNext (Some Waits) caller next = next ≢ caller
CanRunNext (Some Ends) caller next = Unit {0}
CanRunNext (Some Shutdown) caller next = next ≡ nobody
CanRunNext (Some Preempted) caller next = ⊥
CanRunNext (Some Fault) caller next = ⊥
CanRunNext (Some Idle) caller next = ⊥

-- how the run stands after a task left: 2 after a shutdown, 1 after a fault, else it goes on
abbrev pub ended_by : Option Kind → ℕ
ended_by None = 0
ended_by (Some Preempted) = 0
ended_by (Some Waits) = 0
ended_by (Some Ends) = 0
ended_by (Some Fault) = 1
ended_by (Some Shutdown) = 2
ended_by (Some Idle) = 0

-- a call is answered in its task alone; its entry tells which output it makes
pub record IsCall (image : ImageView) (h : History) (m : Moment) (task : ℕ) (entry : DataEntry) (output : Option OutputEntry) : Type 0 where
  pub turn : IsTurnOf image h task
  pub calls : exec (text_of image task) (body_at image h task) ≡ Calls entry.service
  pub bodies : m.after.bodies ≡ slice_set (now image h).bodies task (reply (entry_of image task) (body_at image h task) entry)
  pub makes : option_to_list output ≡ output_of task (body_at image h task) entry
  pub next : CanRunNext m.leaves task m.after.kernel.running
  pub ended : m.after.kernel.ended ≡ ended_by m.leaves

-- a fault leaves every body, and ends the run
pub record IsFault (image : ImageView) (h : History) (m : Moment) (task : ℕ) (cause : Cause) : Type 0 where
  pub turn : IsTurnOf image h task
  pub faults : exec (text_of image task) (body_at image h task) ≡ Faults cause
  pub bodies : m.after.bodies ≡ (now image h).bodies
  pub leaves : m.leaves ≡ Some Fault
  pub nobody_runs : m.after.kernel.running ≡ nobody
  pub ended : m.after.kernel.ended ≡ 1

-- the moment did what its deed says
abbrev pub DidDeed : ImageView → History → Moment → Deed → Type 0
DidDeed image h m (Arrives mask ports) = IsArrival image h m
DidDeed image h m (Steps task back) = IsStep image h m task back
DidDeed image h m (Answers task entry output) = IsCall image h m task entry output
DidDeed image h m (Faulted task cause) = IsFault image h m task cause

-- a moment follows a history: the run had not ended, the moment did what its deed says, and nobody or
-- a task of the image runs afterwards
pub record Follows (image : ImageView) (h : History) (m : Moment) : Type 0 where
  pub goes : (now image h).kernel.ended ≡ 0
  pub did : DidDeed image h m m.deed
  pub runs : (m.after.kernel.running ≡ nobody) ⊎ (m.after.kernel.running < length image.loads)

-- a run: boot, or a run and a moment that follows it
pub data IsRun (image : ImageView) : History → Type 0 where
  Boots : IsRun image []
  GoesOn : {h : History} {m : Moment} → IsRun image h → Follows image h m → IsRun image (m ∷ h)
