-- What the text of a run tells as far as the run has come, and what a teller makes of a machine.
use Rattle.std.specs.Prelude.{◌≡◌, ℕ, ◌+◌, ◌<◌, ◌≤◌, ◌==◌, if◌then◌else◌, List, [], ◌++◌, length, slice_get, slice_set, Option, Some, None, unwrap_or, flat_map, option_to_list}
use Rattle.tm_marker.specs.declared.entries.OutputEntry.{OutputEntry}
use Rattle.tm_marker.specs.declared.entries.Switch.{Switch}
use Rattle.tm_marker.specs.declared.tail.Tail.{Tail}
use Rattle.tm_task.specs.Standing.{TaskView, marker_of}
use Rattle.tm_kernel.specs.State.{nobody}
use Rattle.tm_spelling.specs.Story.{View, Leave, Block, Last, changes, nonzero, start_text, block_text}
use Rattle.tm_text.specs.declared.seen.Track.{Track}
use Rattle.tm_text.specs.Views.{lasts_of}
use Rattle.tm_image.specs.Image.{ImageView}
use Rattle.tm_system.specs.History.{History}
use Rattle.tm_system.specs.Run.{running_at}
use Rattle.tm_system.specs.Controls.{controls}
use Rattle.tm_system.specs.Telling.{below, start_at, blocks, printed, pending, number_of}
use Rattle.tm_system.specs.declared.machine.Told.{Told}
use Rattle.tm_system.specs.Machine.{MachineView}

-- the text so far, how many control entries it tells, each task's data words as they were printed last,
-- and the running task's outputs since the last entry
pub record TellerView : Type 0 where
  pub text : List ℕ
  pub entries : ℕ
  pub printed : List (List ℕ)
  pub pending : List OutputEntry

-- the text from boot without its end: the start, and every control entry so far
abbrev pub text_so_far : ImageView → History → List ℕ
text_so_far image h =
    start_text 0 nobody (below (length image.loads) (start_at image [])) ++ flat_map block_text (blocks image 0 h)

-- the teller has told the history
pub record Tells (image : ImageView) (teller : TellerView) (h : History) : Type 0 where
  pub text : teller.text ≡ text_so_far image h
  pub entries : teller.entries ≡ length (controls image h)
  pub tasks : length teller.printed ≡ length image.loads
  pub printed : (task : ℕ) → task < length image.loads → slice_get teller.printed task ≡ Some (printed image 0 task h)
  pub pending : teller.pending ≡ pending image (running_at image h) h

-- a task as it is printed, with the data words that changed since others were printed
abbrev pub view_of_task : ℕ → List ℕ → TaskView → View
view_of_task number before t = record {
  task = number;
  at = marker_of t.standing;
  regs = t.standing.body.regs;
  changed = changes before t.standing.body.words;
}

-- a task as the start prints it: with the data words that are not 0
abbrev pub start_of_task : ℕ → TaskView → View
start_of_task number t = record {
  task = number;
  at = marker_of t.standing;
  regs = t.standing.body.regs;
  changed = nonzero t.standing.body.words;
}

-- the view where there is no such task
abbrev pub no_view : ℕ → View
no_view number = record { task = number; at = record { epoch = 0; count = 0; pc = 0 }; regs = []; changed = [] }

abbrev pub view_by : ℕ → List ℕ → Option TaskView → View
view_by number before None = no_view number
view_by number before (Some t) = view_of_task number before t

abbrev pub start_by : ℕ → Option TaskView → View
start_by number None = no_view number
start_by number (Some t) = start_of_task number t

-- a task of the machine as it is printed
abbrev pub view_in : MachineView → ℕ → List ℕ → View
view_in machine task before = view_by task before (slice_get machine.tasks task)

-- a task of the machine as the start prints it
abbrev pub start_in : MachineView → ℕ → View
start_in machine task = start_by task (slice_get machine.tasks task)

-- the words of a task, where there is one
abbrev pub words_by : Option TaskView → List ℕ
words_by None = []
words_by (Some t) = t.standing.body.words

abbrev pub words_in : MachineView → ℕ → List ℕ
words_in machine task = words_by (slice_get machine.tasks task)

-- the data words of a task as they were printed last
abbrev pub printed_by : List (List ℕ) → ℕ → List ℕ
printed_by printed task = unwrap_or (slice_get printed task) []

-- the teller at the machine's start: every task is told as it stands
pub record TellsStart (machine : MachineView) (teller : TellerView) : Type 0 where
  pub text : teller.text ≡ start_text 0 nobody (below (length machine.tasks) (start_in machine))
  pub entries : teller.entries ≡ 0
  pub printed : teller.printed ≡ below (length machine.tasks) (words_in machine)
  pub pending : teller.pending ≡ []

-- how the task that a control entry comes from left
abbrev pub leave_in : MachineView → TellerView → ℕ → ℕ → Option Leave
leave_in machine teller from cause =
    if from == nobody then None
    else Some (record {
      cause = cause;
      view = view_in machine from (printed_by teller.printed from);
      outputs = teller.pending;
    })

-- a control entry of the machine, with its number
abbrev pub block_in : MachineView → TellerView → Switch → ℕ → Block
block_in machine teller switch cause = record {
  seq = teller.entries + 1;
  switch = switch;
  leave = leave_in machine teller switch.from cause;
}

-- the words printed last, after a control entry from a task
abbrev pub printed_after : MachineView → TellerView → ℕ → List (List ℕ)
printed_after machine teller from =
    if from == nobody then teller.printed else slice_set teller.printed from (words_in machine from)

-- the teller after one more control entry
abbrev pub with_switch : MachineView → Switch → ℕ → TellerView → TellerView
with_switch machine switch cause teller = record {
  text = teller.text ++ block_text (block_in machine teller switch cause);
  entries = teller.entries + 1;
  printed = printed_after machine teller switch.from;
  pending = [];
}

-- a task's state by its number
abbrev pub state_in : MachineView → ℕ → ℕ
state_in machine task = number_of (slice_get machine.kernel.states task)

-- a task of the machine at the end; the outputs that wait are the running task's
abbrev pub last_in : MachineView → List (List ℕ) → List OutputEntry → ℕ → Last
last_in machine printed pending task = record {
  state = state_in machine task;
  view = view_in machine task (printed_by printed task);
  outputs = if task == machine.kernel.running then pending else [];
}

-- the tail is the machine's last moment
pub record EndsAs (machine : MachineView) (tail : Tail) : Type 0 where
  pub running : tail.running ≡ machine.kernel.running
  pub ended : tail.ended ≡ machine.kernel.ended
  pub ending : tail.ended ≤ 2
  pub at : length tail.at ≡ length machine.tasks
  pub state : tail.state ≡ below (length machine.tasks) (state_in machine)

-- so many tracks are those of the machine's first tasks
pub record TracksFirst (machine : MachineView) (printed : List (List ℕ)) (pending : List OutputEntry) (n : ℕ) (tracks : List Track) : Type 0 where
  pub number : length tracks ≡ n
  pub lasts : lasts_of machine.kernel.running tracks (below n (state_in machine)) ≡ below n (last_in machine printed pending)

-- the teller with one more output that waits
abbrev pub waiting : TellerView → Option OutputEntry → TellerView
waiting teller output = record teller { pending = teller.pending ++ option_to_list output }

-- the teller after a control entry, where there is one
abbrev pub with_switch_in : MachineView → Option Switch → ℕ → TellerView → TellerView
with_switch_in machine None cause teller = teller
with_switch_in machine (Some switch) cause teller = with_switch machine switch cause teller

-- the teller after what was told of a moment: its output waits, then its control entry is told
abbrev pub after_telling : MachineView → ℕ → Told → TellerView → TellerView
after_telling machine task told teller = with_switch_in machine told.switch told.fault (waiting teller told.output)

-- the teller has told the history
abbrev pub HasTold : ImageView → History → TellerView → Type 0
HasTold image h teller = Tells image teller h
