-- When a machine and a window stand where a run does, in the midst of a slice.
use Rattle.std.specs.Prelude.{◌≡◌, ℕ, ◌<◌, ◌^◌, length, map, Option, Some, None, IfSome}
use Rattle.tm_marker.specs.declared.entries.DataEntry.{DataEntry}
use Rattle.tm_marker.specs.declared.entries.OutputEntry.{OutputEntry}
use Rattle.tm_marker.specs.declared.entries.Switch.{Switch}
use Rattle.tm_marker.specs.declared.tail.Tail.{Tail}
use Rattle.tm_task.specs.Standing.{marker_of}
use Rattle.tm_kernel.specs.State.{state_number}
use Rattle.tm_image.specs.Image.{ImageView, shape_of}
use Rattle.tm_check.specs.Checkpoint.{Checkpoint, checkpoint}
use Rattle.tm_log.specs.Window.{WindowView, log_of, checks_of, with_control, with_output, with_entry, with_check}
use Rattle.tm_system.specs.History.{History}
use Rattle.tm_system.specs.Machine.{MachineView, IsAt}
pub use Rattle.tm_system.specs.Moving.{task_in}
use Rattle.tm_system.specs.declared.machine.Told.{Told}
use Rattle.tm_record.specs.Window.{HoldsLists, IsWindowOf}

-- the window after a data entry of the task, where there is one
abbrev pub entry_noted : ℕ → Option DataEntry → WindowView → WindowView
entry_noted task None w = w
entry_noted task (Some entry) w = with_entry w task entry

-- a checkpoint of the task as it is now: its body, and the totals of its data entries and of the
-- control entries
abbrev pub checkpoint_now : MachineView → WindowView → ℕ → Checkpoint
checkpoint_now machine w task =
    checkpoint (task_in machine task).standing.body (log_of w task).total w.control.total

-- the window after a checkpoint of a task, where one is taken
abbrev pub check_noted : MachineView → Option ℕ → WindowView → WindowView
check_noted machine None w = w
check_noted machine (Some task) w = with_check w task (checkpoint_now machine w task)

-- the window after an output, where there is one
abbrev pub output_noted : Option OutputEntry → WindowView → WindowView
output_noted None w = w
output_noted (Some entry) w = with_output w entry

-- the window after a control entry, where there is one
abbrev pub switch_noted : Option Switch → WindowView → WindowView
switch_noted None w = w
switch_noted (Some entry) w = with_control w entry

-- the window after a moment, by what was told of it: the data entry is counted in a checkpoint of the
-- same moment, and the control entry is not
abbrev pub noted : MachineView → ℕ → Told → WindowView → WindowView
noted machine task told w =
    switch_noted told.switch (output_noted told.output (check_noted machine told.checkpoint (entry_noted task told.entry w)))

-- the tail of a machine as it stands
abbrev pub tail_of : MachineView → Tail
tail_of machine = record {
  running = machine.kernel.running;
  ended = machine.kernel.ended;
  at = map (λ task. marker_of task.standing) machine.tasks;
  state = map state_number machine.kernel.states;
}

-- every list has room for one more item, and the checkpoints have bodies as large as the machine's
pub record HasRoom (machine : MachineView) (w : WindowView) : Type 0 where
  pub tasks : length w.shape.words ≡ length machine.tasks
  pub control : w.control.total < 2 ^ 53
  pub outputs : w.outputs.total < 2 ^ 53
  pub logs : (task : ℕ) → task < length machine.tasks → (log_of w task).total < 2 ^ 53
  pub checks : (task : ℕ) → task < length machine.tasks → (checks_of w task).total < 2 ^ 53
  pub sizes : (task : ℕ) → task < length machine.tasks →
      length (task_in machine task).standing.body.words ≡ (checks_of w task).words

-- what is told concerns a task: the one whose turn it was, and the one whose checkpoint is taken
pub record Concerns (tasks task : ℕ) (told : Told) : Type 0 where
  pub entry : IfSome told.entry (λ entry. task < tasks)
  pub checkpoint : IfSome told.checkpoint (λ other. other < tasks)

-- the window's lists hold those of the history
pub record IsNoted (image : ImageView) (h : History) (w : WindowView) : Type 0 where
  pub shape : w.shape ≡ shape_of image
  pub lists : HoldsLists image w h

-- the machine stands where the history does, and the window is that of the history
pub record IsRecorded (image : ImageView) (machine : MachineView) (w : WindowView) (h : History) : Type 0 where
  pub at : IsAt image machine h
  pub window : IsWindowOf image w h
