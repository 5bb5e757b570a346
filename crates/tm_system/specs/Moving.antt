-- What a moment makes of a machine, and what the machine tells of it.
use Rattle.std.specs.Prelude.{◌≡◌, ℕ, zero, suc, ◌==◌, List, [], map, slice_get, slice_set, unwrap_or}
use Rattle.tm_marker.specs.declared.body.Body.{Body}
use Rattle.tm_task.specs.Exec.{Exec, exec}
use Rattle.tm_task.specs.Standing.{TaskView, task_view, boot_body, went, answered}
use Rattle.tm_kernel.specs.State.{nobody}
use Rattle.tm_image.specs.Image.{ImageView, text_of}
use Rattle.tm_system.specs.declared.machine.Told.{Told}
use Rattle.tm_system.specs.History.{Deed, Arrives, Steps, Answers, Faulted, Whole, Moment}
use Rattle.tm_system.specs.Run.{no_body, moment_by}
use Rattle.tm_system.specs.Controls.{output_of}
use Rattle.tm_system.specs.Telling.{cause_of}
use Rattle.tm_system.specs.Machine.{MachineView, entry_told, checkpoint_by, told_going_on}
use Rattle.tm_system.specs.Parts.{switched}

-- the task of a number, where there is one
abbrev pub task_in : MachineView → ℕ → TaskView
task_in machine task = unwrap_or (slice_get machine.tasks task) (task_view 0 (boot_body 0 []) 0 0)

-- the whole state that a machine has
abbrev pub whole_in : MachineView → Whole
whole_in machine = record { bodies = map (λ task. task.standing.body) machine.tasks; kernel = machine.kernel }

-- the body of a task in a whole state
abbrev pub body_in : Whole → ℕ → Body
body_in w task = unwrap_or (slice_get w.bodies task) no_body

-- the moment of a task's instruction, by what the instruction does to its body
abbrev pub moment_in : MachineView → ℕ → Exec → Moment
moment_in machine task e =
    let t = task_in machine task in
    moment_by t.entry (whole_in machine) task t.standing.body e

-- the moment of the running task's next instruction
unfoldable pub next_in : ImageView → MachineView → Moment
next_in image machine =
    let task = machine.kernel.running in
    moment_in machine task (exec (text_of image task) (task_in machine task).standing.body)

-- the tasks after a deed that led to a whole state: the one that went on or was answered goes on from where
-- it stood, and the others stay
abbrev pub tasks_moved : MachineView → Whole → Deed → List TaskView
tasks_moved machine after (Arrives mask ports) = machine.tasks
tasks_moved machine after (Steps task back) =
    let t = task_in machine task in
    slice_set machine.tasks task (record t { standing = went t.standing (body_in after task) back })
tasks_moved machine after (Answers task entry output) =
    let t = task_in machine task in
    slice_set machine.tasks task (record t { standing = answered t.entry t.standing entry })
tasks_moved machine after (Faulted task cause) = machine.tasks

-- the machine after a moment
unfoldable pub moved : MachineView → Moment → MachineView
moved machine m = record { tasks = tasks_moved machine m.after m.deed; kernel = m.after.kernel }

-- what the machine tells of a moment
unfoldable pub told_in : MachineView → Moment → Told
told_in machine m = record {
  entry = entry_told m.deed;
  output = output_of m.deed;
  checkpoint = checkpoint_by (λ task. (task_in machine task).standing.count) m.deed;
  switch = switched (moved machine m) machine.kernel.running m.leaves;
  fault = cause_of m.deed;
  idle = m.after.kernel.running == nobody;
}

-- the machine did a moment, and told it
pub record Does (old : MachineView) (m : Moment) (told : Told) (new : MachineView) : Type 0 where
  pub machine : new ≡ moved old m
  pub tells : told ≡ told_in old m

-- the machine did so many next instructions, and each added to no list
unfoldable pub DoesQuietly : ImageView → ℕ → MachineView → MachineView → Type 0
DoesQuietly image zero old new = new ≡ old
DoesQuietly image (suc n) old new =
    (between : MachineView) × (DoesQuietly image n old between × Does between (next_in image between) told_going_on new)
