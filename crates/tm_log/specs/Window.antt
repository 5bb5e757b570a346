-- The window: what the recorder's bounded buffers hold of a run.
use Rattle.std.specs.Prelude.{◌≡◌, ℕ, ◌+◌, ◌*◌, List, [], map, length, replicate, slice_get, slice_set, sum_by, unwrap_or, All}
use Rattle.tm_marker.specs.declared.marker.Marker.{Marker}
use Rattle.tm_marker.specs.declared.entries.Switch.{Switch}
use Rattle.tm_marker.specs.declared.entries.DataEntry.{DataEntry}
use Rattle.tm_marker.specs.declared.entries.OutputEntry.{OutputEntry}
use Rattle.tm_marker.specs.declared.shape.Caps.{Caps}
use Rattle.tm_marker.specs.declared.shape.Shape.{Shape}
use Rattle.tm_marker.specs.declared.tail.Tail.{Tail}
use Rattle.tm_marker.specs.declared.tail.TheConstants.{GOES_ON, SUSPENDED}
use Rattle.tm_marker.specs.Shape.{IsShape}
pub use Rattle.tm_marker.specs.Tail.{nobody, zero_marker}
use Rattle.tm_ring.specs.Kept.{Kept, kept, pushed}
use Rattle.tm_check.specs.Checkpoint.{Checkpoint, KeptChecks, kept_checks, pushed_check}

-- the shape of the image's buffers; the control entries; the outputs; each task's data entries and
-- checkpoints; and how the run stands at its last moment
pub record WindowView : Type 0 where
  pub shape : Shape
  pub control : Kept Switch
  pub outputs : Kept OutputEntry
  pub logs : List (Kept DataEntry)
  pub checks : List KeptChecks
  pub tail : Tail

-- the window of these parts
abbrev pub window_from : Shape → Kept Switch → Kept OutputEntry → List (Kept DataEntry) → List KeptChecks → Tail → WindowView
window_from shape control outputs logs checks tail =
    record { shape = shape; control = control; outputs = outputs; logs = logs; checks = checks; tail = tail }

-- nobody runs, the run goes on, and every task is suspended at the zero marker
abbrev pub still_tail : ℕ → Tail
still_tail tasks = record { running = nobody; ended = GOES_ON; at = replicate tasks zero_marker; state = replicate tasks SUSPENDED }

-- the window of a run of which nothing was kept yet
abbrev pub empty_window : Shape → WindowView
empty_window shape = record {
  shape = shape;
  control = kept [] 0 shape.caps.control;
  outputs = kept [] 0 shape.caps.outputs;
  logs = replicate (length shape.words) (kept [] 0 shape.caps.logs);
  checks = map (λ words. kept_checks [] 0 shape.caps.checks words) shape.words;
  tail = still_tail (length shape.words);
}

-- the data entries of a task
abbrev pub log_of : WindowView → ℕ → Kept DataEntry
log_of w task = unwrap_or (slice_get w.logs task) (kept [] 0 0)

-- the checkpoints of a task
abbrev pub checks_of : WindowView → ℕ → KeptChecks
checks_of w task = unwrap_or (slice_get w.checks task) (kept_checks [] 0 0 0)

-- one more control entry; all else stays
abbrev pub with_control : WindowView → Switch → WindowView
with_control w entry = record w { control = pushed w.control entry }

-- one more output; all else stays
abbrev pub with_output : WindowView → OutputEntry → WindowView
with_output w entry = record w { outputs = pushed w.outputs entry }

-- one more data entry of a task; all else stays
abbrev pub with_entry : WindowView → ℕ → DataEntry → WindowView
with_entry w task entry = record w { logs = slice_set w.logs task (pushed (log_of w task) entry) }

-- one more checkpoint of a task; all else stays
abbrev pub with_check : WindowView → ℕ → Checkpoint → WindowView
with_check w task c = record w { checks = slice_set w.checks task (pushed_check (checks_of w task) c) }

-- who runs, and whether the run has ended; all else stays
abbrev pub with_running : WindowView → ℕ → ℕ → WindowView
with_running w running ended = record w { tail = record w.tail { running = running; ended = ended } }

-- the marker and the state of a task; all else stays
abbrev pub with_task : WindowView → ℕ → Marker → ℕ → WindowView
with_task w task at state =
    record w { tail = record w.tail { at = slice_set w.tail.at task at; state = slice_set w.tail.state task state } }

-- what every window keeps: a shape within the limits, and for each task of it one ring of data entries,
-- one list of checkpoints, one marker and one state, with the shape's capacities and data words
pub record IsWindow (w : WindowView) : Type 0 where
  pub shape : IsShape w.shape
  pub control : w.control.cap ≡ w.shape.caps.control
  pub outputs : w.outputs.cap ≡ w.shape.caps.outputs
  pub logs : length w.logs ≡ length w.shape.words
  pub log_caps : All (λ ring. ring.cap ≡ w.shape.caps.logs) w.logs
  pub checks : length w.checks ≡ length w.shape.words
  pub check_caps : All (λ checks. checks.cap ≡ w.shape.caps.checks) w.checks
  pub check_words : map (λ checks. checks.words) w.checks ≡ w.shape.words
  pub at : length w.tail.at ≡ length w.shape.words
  pub state : length w.tail.state ≡ length w.shape.words

-- the bytes of a dump that tell one task's full buffers
abbrev pub task_bound : Caps → ℕ → ℕ
task_bound caps words = 8 + 21 * caps.logs + 8 + (144 + 4 * words) * caps.checks

-- the length of a dump in which every ring is full: its head, the control entries, the outputs, the
-- tail with 17 bytes for each task, each task's buffers, and the closing digest
abbrev pub dump_bound : Shape → ℕ
dump_bound shape =
    38 + (8 + 35 * shape.caps.control) + (8 + 6 * shape.caps.outputs) + (2 + 17 * length shape.words)
    + sum_by (task_bound shape.caps) shape.words + 32
