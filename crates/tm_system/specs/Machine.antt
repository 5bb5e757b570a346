-- What the machine has at a moment of a run, and what it tells of one.
use Rattle.std.specs.Prelude.{◌≡◌, ℕ, ◌<◌, ◌==◌, false, if◌then◌else◌, List, length, slice_get, Option, Some, None}
use Rattle.tm_marker.specs.declared.entries.DataEntry.{DataEntry}
use Rattle.tm_task.specs.Standing.{TaskView}
use Rattle.tm_kernel.specs.State.{KernelState, IsKernel, nobody}
use Rattle.tm_image.specs.Image.{ImageView, entry_of}
use Rattle.tm_system.specs.declared.machine.Told.{Told}
use Rattle.tm_system.specs.History.{Deed, Arrives, Steps, Answers, Faulted, Moment, History}
use Rattle.tm_system.specs.Run.{now, arrival, next_moment}
use Rattle.tm_system.specs.Marks.{is_start, backs, standing_at}
use Rattle.tm_system.specs.Controls.{is_switch, switch_at, output_of}
use Rattle.tm_system.specs.Telling.{cause_of}

-- the machine's tasks, and its kernel
pub record MachineView : Type 0 where
  pub tasks : List TaskView
  pub kernel : KernelState

-- a task after the latest moment
abbrev pub task_at : ImageView → History → ℕ → TaskView
task_at image h task = record { entry = entry_of image task; standing = standing_at image h task }

-- the machine stands where the run of the image does
pub record IsAt (image : ImageView) (machine : MachineView) (h : History) : Type 0 where
  pub spec : machine.kernel.spec ≡ image.spec
  pub kernel : machine.kernel ≡ (now image h).kernel
  pub bodies : length (now image h).bodies ≡ length image.loads
  pub tasks : length machine.tasks ≡ length image.loads
  pub each : (task : ℕ) → task < length image.loads → slice_get machine.tasks task ≡ Some (task_at image h task)

-- what every machine keeps: one task for each of the kernel's
pub record IsMachine (machine : MachineView) : Type 0 where
  pub tasks : length machine.tasks ≡ length machine.kernel.spec.tasks
  pub kernel : IsKernel machine.kernel

-- the data entry of a deed
abbrev pub entry_told : Deed → Option DataEntry
entry_told (Arrives mask ports) = None
entry_told (Steps task back) = None
entry_told (Answers task entry output) = Some entry
entry_told (Faulted task cause) = None

-- the task whose epoch a deed starts, where it starts one, by each task's backward transfers since its last
-- epoch start
abbrev pub checkpoint_by : (ℕ → ℕ) → Deed → Option ℕ
checkpoint_by counts (Arrives mask ports) = None
checkpoint_by counts (Steps task back) = if is_start task (Steps task back) (counts task) then Some task else None
checkpoint_by counts (Answers task entry output) =
    if is_start task (Answers task entry output) (counts task) then Some task else None
checkpoint_by counts (Faulted task cause) = None

-- the task whose epoch a deed starts after a history
abbrev pub checkpoint_told : Deed → History → Option ℕ
checkpoint_told deed h = checkpoint_by (λ task. backs task h) deed

-- what a moment adds to the lists that a run leaves, and the cause of its fault
abbrev pub told_of : ImageView → Moment → History → Told
told_of image m h = record {
  entry = entry_told m.deed;
  output = output_of m.deed;
  checkpoint = checkpoint_told m.deed h;
  switch = if is_switch image m h then Some (switch_at image m h) else None;
  fault = cause_of m.deed;
  idle = m.after.kernel.running == nobody;
}

-- what is told of an instruction that goes on in its epoch
abbrev pub told_going_on : Told
told_going_on = record { entry = None; output = None; checkpoint = None; switch = None; fault = 0; idle = false }

-- the next moment adds to no list, and somebody runs after it
abbrev pub IsQuiet : ImageView → History → Type 0
IsQuiet image h = told_of image (next_moment image h) h ≡ told_going_on

-- what is told where nothing was done
abbrev pub told_nothing : ImageView → History → Told
told_nothing image h = record {
  entry = None;
  output = None;
  checkpoint = None;
  switch = None;
  fault = 0;
  idle = (now image h).kernel.running == nobody;
}

-- what is told of an arrival: nothing was done where the run has ended
abbrev pub arrival_told : ImageView → ℕ → List ℕ → History → Told
arrival_told image mask ports h =
    if (now image h).kernel.ended == 0 then told_of image (arrival (now image h) mask ports) h else told_nothing image h
