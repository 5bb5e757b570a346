-- The lists that a run leaves: control entries, data entries, outputs, checkpoints.
use Rattle.std.specs.Prelude.{ℕ, Bool, not, ◌||◌, ◌==◌, if◌then◌else◌, List, [], ◌∷◌, ◌++◌, length, Option, None, unwrap_or, is_some, option_to_list}
use Rattle.tm_marker.specs.declared.entries.DataEntry.{DataEntry}
use Rattle.tm_marker.specs.declared.entries.OutputEntry.{OutputEntry}
use Rattle.tm_marker.specs.declared.entries.Switch.{Switch}
use Rattle.tm_marker.specs.declared.entries.Kind.{Kind}
use Rattle.tm_marker.specs.declared.entries.Kind.TheVariants.{Preempted, Idle}
pub use Rattle.tm_check.specs.Checkpoint.{Checkpoint}
use Rattle.tm_kernel.specs.State.{nobody}
use Rattle.tm_image.specs.Image.{ImageView}
use Rattle.tm_system.specs.History.{Deed, Arrives, Steps, Answers, Faulted, Moment, History}
use Rattle.tm_system.specs.Run.{running_at, body_at}
use Rattle.tm_system.specs.Marks.{is_start, backs, marker_at}

-- the moment makes a control entry: the running task left by itself, or another runs now
abbrev pub is_switch : ImageView → Moment → History → Bool
is_switch image m h = is_some m.leaves || not (running_at image h == m.after.kernel.running)

-- why control went on: nobody ran, or the task left by itself, or it was preempted
abbrev pub kind_by : ℕ → Option Kind → Kind
kind_by from leaves = if from == nobody then Idle else unwrap_or leaves Preempted

-- the control entry of a moment, with the markers right after it
abbrev pub switch_at : ImageView → Moment → History → Switch
switch_at image m h =
    let from = running_at image h in
    let to = m.after.kernel.running in
    record {
      from = from;
      kind = kind_by from m.leaves;
      from_at = marker_at image (m ∷ h) from;
      to = to;
      to_at = marker_at image (m ∷ h) to;
    }

-- the control entries, oldest first
unfoldable pub controls : ImageView → History → List Switch
controls image [] = []
controls image (m ∷ h) =
    if is_switch image m h then controls image h ++ switch_at image m h ∷ [] else controls image h

-- the data entry that a deed leaves the task, where it leaves one
abbrev pub entries_of : ℕ → Deed → List DataEntry
entries_of task (Arrives mask ports) = []
entries_of task (Steps other back) = []
entries_of task (Answers other entry output) = if other == task then entry ∷ [] else []
entries_of task (Faulted other cause) = []

-- the task's data entries, oldest first
unfoldable pub entries : ℕ → History → List DataEntry
entries task [] = []
entries task (m ∷ h) = entries task h ++ entries_of task m.deed

-- the output that a deed makes, where it makes one
abbrev pub output_of : Deed → Option OutputEntry
output_of (Arrives mask ports) = None
output_of (Steps other back) = None
output_of (Answers other entry output) = output
output_of (Faulted other cause) = None

-- the outputs, oldest first
unfoldable pub outputs : History → List OutputEntry
outputs [] = []
outputs (m ∷ h) = outputs h ++ option_to_list (output_of m.deed)

-- the task's checkpoints, oldest first: one at boot, and one after each epoch start, without the
-- control entry of the same moment
unfoldable pub checkpoints : ImageView → ℕ → History → List Checkpoint
checkpoints image task [] =
    (record { body = body_at image [] task; data_number = 0; control_number = 0 }) ∷ []
checkpoints image task (m ∷ h) =
    if is_start task m.deed (backs task h)
    then checkpoints image task h ++ (record {
      body = body_at image (m ∷ h) task;
      data_number = length (entries task (m ∷ h));
      control_number = length (controls image h);
    }) ∷ []
    else checkpoints image task h
