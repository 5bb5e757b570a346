-- What the parts of a moment make of a machine.
use Rattle.std.specs.Prelude.{◌≡◌, ℕ, ◌^◌, ◌<◌, ◌⊎◌, ◌||◌, not, ◌==◌, if◌then◌else◌, List, length, map, slice_get, slice_set, Option, Some, None, is_some}
use Rattle.tm_rv.specs.Code.{Text}
use Rattle.tm_marker.specs.declared.marker.Marker.{Marker}
use Rattle.tm_marker.specs.declared.entries.DataEntry.{DataEntry}
use Rattle.tm_marker.specs.declared.entries.Switch.{Switch}
use Rattle.tm_marker.specs.declared.entries.Kind.{Kind}
use Rattle.tm_task.specs.declared.outcome.Stepped.{Stepped}
use Rattle.tm_task.specs.Standing.{TaskView, booted_task, answered, marker_of}
use Rattle.tm_task.specs.Stepped.{Did}
use Rattle.tm_task.specs.RunsOn.{RunsOn}
use Rattle.tm_kernel.specs.State.{nobody}
use Rattle.tm_image.specs.Image.{ImageView, entry_of, words_of}
use Rattle.tm_system.specs.Controls.{kind_by}
use Rattle.tm_system.specs.Machine.{MachineView}

-- the tasks of the image at boot
pub record AreBooted (image : ImageView) (tasks : List TaskView) : Type 0 where
  pub number : length tasks ≡ length image.loads
  pub each : (task : ℕ) → task < length image.loads →
      slice_get tasks task ≡ Some (booted_task (entry_of image task) (words_of image task))

-- one task made a step, and nothing else changed
pub record StepsTask (text : Text) (task : ℕ) (old : MachineView) (answer : Stepped) (new : MachineView) : Type 0 where
  pub before : TaskView
  pub after : TaskView
  pub there : slice_get old.tasks task ≡ Some before
  pub did : Did text before answer after
  pub rest : new ≡ record old { tasks = slice_set old.tasks task after }

-- one task ran on by so many instructions, and nothing else changed
pub record RunsTask (text : Text) (task : ℕ) (old : MachineView) (n : ℕ) (new : MachineView) : Type 0 where
  pub before : TaskView
  pub after : TaskView
  pub there : slice_get old.tasks task ≡ Some before
  pub ran : RunsOn text n before after
  pub rest : new ≡ record old { tasks = slice_set old.tasks task after }

-- the task stands at a call in reach of a text, and its epoch leaves room for more
pub record CanAnswer (task : TaskView) : Type 0 where
  pub inside : task.standing.body.pc < 65536
  pub epoch : task.standing.epoch < 2 ^ 53

-- one task has its call answered, and nothing else changed
pub record RepliesTo (task : ℕ) (entry : DataEntry) (old new : MachineView) : Type 0 where
  pub before : TaskView
  pub there : slice_get old.tasks task ≡ Some before
  pub rest : new ≡ record old {
    tasks = slice_set old.tasks task (record before { standing = answered before.entry before.standing entry });
  }

-- one of so many tasks, or nobody
abbrev pub IsTaskOrNobody : ℕ → ℕ → Type 0
IsTaskOrNobody tasks task = (task ≡ nobody) ⊎ (task < tasks)

-- the marker of a task, and the zero marker where there is none
abbrev pub marker_by : Option TaskView → Marker
marker_by None = record { epoch = 0; count = 0; pc = 0 }
marker_by (Some t) = marker_of t.standing

-- the marker of a task of the machine; nobody has the zero marker
abbrev pub marker_in : MachineView → ℕ → Marker
marker_in machine task =
    if task == nobody then record { epoch = 0; count = 0; pc = 0 } else marker_by (slice_get machine.tasks task)

-- the control entry of a moment that the machine has done
abbrev pub switched : MachineView → ℕ → Option Kind → Option Switch
switched machine from leaves =
    let to = machine.kernel.running in
    if is_some leaves || not (from == to)
    then Some (record {
      from = from;
      kind = kind_by from leaves;
      from_at = marker_in machine from;
      to = to;
      to_at = marker_in machine to;
    })
    else None

-- how many data words each task has
abbrev pub word_counts : List TaskView → List ℕ
word_counts tasks = map (λ t. length t.standing.body.words) tasks
