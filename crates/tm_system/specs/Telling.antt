-- The text of a run from a point, as the spelling of what it tells.
use Rattle.std.specs.Prelude.{ℕ, zero, suc, Bool, ◌&&◌, ◌||◌, ◌==◌, nat_le, nat_lt, if◌then◌else◌, List, [], ◌∷◌, ◌++◌, length, slice_get, Option, Some, None, option_to_list}
use Rattle.tm_marker.specs.declared.entries.OutputEntry.{OutputEntry}
use Rattle.tm_marker.specs.declared.entries.Slice.{Slice}
use Rattle.tm_task.specs.Cause.{cause_number}
use Rattle.tm_kernel.specs.declared.kernel.TaskState.{TaskState}
use Rattle.tm_kernel.specs.State.{nobody, state_number}
use Rattle.tm_spelling.specs.Story.{View, Leave, Block, Last, Story, changes, nonzero, spelled}
use Rattle.tm_image.specs.Image.{ImageView}
use Rattle.tm_system.specs.History.{Deed, Arrives, Steps, Answers, Faulted, Moment, History}
use Rattle.tm_system.specs.Run.{now, running_at, body_at, run}
use Rattle.tm_system.specs.Marks.{marker_at}
use Rattle.tm_system.specs.Controls.{is_switch, switch_at, controls}

-- the history at point p: boot for point 0, else right after the p-th control entry
unfoldable pub upto : ImageView → ℕ → History → History
upto image p [] = []
upto image p (m ∷ h) = if nat_le p (length (controls image h)) then upto image p h else m ∷ h

-- the moment makes a control entry that comes from the task
abbrev pub is_stop : ImageView → ℕ → Moment → History → Bool
is_stop image task m h = is_switch image m h && running_at image h == task

-- the data words of a task as the text from point p printed them last: those at the point, where all
-- tasks are printed, or those at the task's last stop after it
unfoldable pub printed : ImageView → ℕ → ℕ → History → List ℕ
printed image p task [] = (body_at image [] task).words
printed image p task (m ∷ h) =
    if nat_lt (length (controls image h)) p || is_stop image task m h
    then (body_at image (m ∷ h) task).words
    else printed image p task h

-- the output that a deed of the task makes, where it makes one
abbrev pub made : ℕ → Deed → List OutputEntry
made task (Arrives mask ports) = []
made task (Steps other back) = []
made task (Answers other entry output) = if other == task then option_to_list output else []
made task (Faulted other cause) = []

-- the outputs that the task made since the last control entry
unfoldable pub pending : ImageView → ℕ → History → List OutputEntry
pending image task [] = []
pending image task (m ∷ h) = if is_switch image m h then [] else pending image task h ++ made task m.deed

-- the cause of a fault by its number, and 0 of another deed
abbrev pub cause_of : Deed → ℕ
cause_of (Arrives mask ports) = 0
cause_of (Steps other back) = 0
cause_of (Answers other entry output) = 0
cause_of (Faulted other cause) = cause_number cause

-- a task after the latest moment, with the data words that changed since others were printed
abbrev pub view_at : ImageView → History → ℕ → List ℕ → View
view_at image h task before = record {
  task = task;
  at = marker_at image h task;
  regs = (body_at image h task).regs;
  changed = changes before (body_at image h task).words;
}

-- how the running task left at a moment, in the text from point p
abbrev pub leave_at : ImageView → ℕ → Moment → History → Option Leave
leave_at image p m h =
    let task = running_at image h in
    if task == nobody then None
    else Some (record {
      cause = cause_of m.deed;
      view = view_at image (m ∷ h) task (printed image p task h);
      outputs = pending image task h ++ made task m.deed;
    })

-- the control entry of a moment, with its number from 1, in the text from point p
abbrev pub block_at : ImageView → ℕ → Moment → History → Block
block_at image p m h = record {
  seq = length (controls image (m ∷ h));
  switch = switch_at image m h;
  leave = leave_at image p m h;
}

-- the control entries after point p, oldest first
unfoldable pub blocks : ImageView → ℕ → History → List Block
blocks image p [] = []
blocks image p (m ∷ h) =
    if is_switch image m h && nat_le p (length (controls image h))
    then blocks image p h ++ block_at image p m h ∷ []
    else blocks image p h

-- a list with one item for each number below n
abbrev pub below : {A : Type 0} → ℕ → (ℕ → A) → List A
below zero f = []
below (suc n) f = below n f ++ f n ∷ []

-- a state's number, and 0 where there is no such task
abbrev pub number_of : Option TaskState → ℕ
number_of None = 0
number_of (Some state) = state_number state

-- a task at the point: its data words that are not 0 are printed
abbrev pub start_at : ImageView → History → ℕ → View
start_at image h task = record {
  task = task;
  at = marker_at image h task;
  regs = (body_at image h task).regs;
  changed = nonzero (body_at image h task).words;
}

-- a task at the end, in the text from point p; the outputs since the last entry go with the running task
abbrev pub last_at : ImageView → ℕ → History → ℕ → Last
last_at image p h task = record {
  state = number_of (slice_get (now image h).kernel.states task);
  view = view_at image h task (printed image p task h);
  outputs = if task == running_at image h then pending image task h else [];
}

-- what the text from point p tells of a history
abbrev pub story : ImageView → ℕ → History → Story
story image p h =
    let tasks = length image.loads in
    record {
      from = p;
      running = running_at image (upto image p h);
      starts = below tasks (start_at image (upto image p h));
      blocks = blocks image p h;
      last_running = running_at image h;
      ended = (now image h).kernel.ended;
      lasts = below tasks (last_at image p h);
    }

-- the text of the run of a script, from point p
unfoldable pub text_of_run : ImageView → List Slice → ℕ → List ℕ
text_of_run image script p = spelled (story image p (run image script))
