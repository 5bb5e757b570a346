-- What a replay of a window from a point comes to: each task by itself, and then the outputs.
use Rattle.std.specs.Prelude.{ℕ, zero, suc, ◌+◌, ◌-◌, Bool, ◌==◌, ◌&&◌, if◌then◌else◌, List, [], ◌∷◌, ◌++◌, length, map, flat_map, unwrap_or, option_map, Option, Some, None, Result, Ok, Err, IsOk}
use Rattle.tm_ring.specs.Buffer.{keep_last}
use Rattle.tm_marker.specs.declared.marker.Marker.{Marker}
use Rattle.tm_marker.specs.declared.entries.DataEntry.{DataEntry}
use Rattle.tm_marker.specs.declared.entries.OutputEntry.{OutputEntry}
use Rattle.tm_marker.specs.declared.entries.Switch.{Switch}
use Rattle.tm_ring.specs.Kept.{Kept, item_of}
use Rattle.tm_check.specs.Checkpoint.{Checkpoint, checkpoint, check_of}
use Rattle.tm_log.specs.Window.{WindowView, nobody, log_of, checks_of}
use Rattle.tm_log.specs.Points.{items_from, entries_from, tail_marker, marker_at_point}
use Rattle.tm_task.specs.Place.{start_place}
use Rattle.tm_image.specs.Image.{ImageView, entry_of, text_of}
use Rattle.tm_spelling.specs.Story.{View, Leave, Block, Last, Story, spelled}
use Rattle.tm_spelling.specs.Tracks.{story_by}
use Rattle.tm_system.specs.declared.diverged.Why.TheVariants.{OtherOutput}
use Rattle.tm_system.specs.declared.diverged.Diverged.{Diverged}
use Rattle.tm_system.specs.Run.{no_body}
use Rattle.tm_system.specs.Alone.{Alone}
use Rattle.tm_system.specs.Wanted.{wanted_of, last_wanted}
use Rattle.tm_system.specs.Tracing.{Tracing, On, begun, meets, closed, track_of}

-- a task of the image by itself, with its kept data entries from a number on
abbrev pub alone_in : ImageView → ℕ → Kept DataEntry → ℕ → Alone
alone_in image task log first = record {
  task = task;
  entry = entry_of image task;
  text = text_of image task;
  log = items_from log first;
  first = first;
  total = log.total;
}

-- the checkpoint that stands in for one that is not kept
abbrev pub no_checkpoint : Checkpoint
no_checkpoint = checkpoint no_body 0 0

-- a task's replay from a point: from a checkpoint of its epoch there, with its data entries from the
-- checkpoint's number on, by all demands on it; then no data entry is left
unfoldable pub replayed_from :
    ImageView → ℕ → ℕ → Kept Switch → ℕ → Marker → Marker → Kept DataEntry → Checkpoint → Result Tracing Diverged
replayed_from image task point control running start last log check =
    let a = alone_in image task log check.data_number in
    closed a (last_wanted task (control.total + 1) running last)
    (meets a (wanted_of task point start (entries_from control point) control.total running last)
    (On (begun task (start_place check.body start.epoch))))

-- a task's replay from a point, by what a window has of it: its marker at the point and its last one, its
-- data entries, and the checkpoint of its epoch at the point
abbrev pub replayed_in :
    ImageView → ℕ → ℕ → Kept Switch → ℕ → Marker → Marker → Kept DataEntry → Option Checkpoint → Result Tracing Diverged
replayed_in image task point control running start last log check =
    replayed_from image task point control running start last log (unwrap_or check no_checkpoint)

-- a task's replay of a window from a point
abbrev pub replayed_task : ImageView → WindowView → ℕ → ℕ → Result Tracing Diverged
replayed_task image w point task =
    replayed_in image task point w.control w.tail.running (marker_at_point w point task) (tail_marker w task)
    (log_of w task) (check_of (checks_of w task) (marker_at_point w point task).epoch)

-- a task does what the window says of it from the point on
abbrev pub FitsTask : ImageView → WindowView → ℕ → ℕ → Type 0
FitsTask image w point task = IsOk (replayed_task image w point task)

-- one more value, or the error
abbrev pub one_more : {X E : Type 0} → Result (List X) E → Result X E → Result (List X) E
one_more (Ok xs) (Ok x) = Ok (xs ++ x ∷ [])
one_more (Ok xs) (Err e) = Err e
one_more (Err e) r = Err e

-- the values of the numbers below n in rising order, or the error of the least that has one
unfoldable pub all_below : {X E : Type 0} → ℕ → (ℕ → Result X E) → Result (List X) E
all_below zero f = Ok []
all_below (suc n) f = one_more (all_below n f) (f n)

-- the replays of all tasks, or where the least one that doesn't fit diverges
abbrev pub replayed_tasks : ImageView → WindowView → ℕ → Result (List Tracing) Diverged
replayed_tasks image w point = all_below (length w.shape.words) (replayed_task image w point)

-- who runs at a point: nobody at boot, else whom the point's own control entry goes to
abbrev pub runs_at_point : Kept Switch → ℕ → ℕ
runs_at_point control point =
    if point == 0 then nobody else unwrap_or (option_map (λ entry. entry.to) (item_of control (point - 1))) nobody

-- what a window tells from a point, by what the replays of its tasks tell
abbrev pub story_of : WindowView → ℕ → List Tracing → Story
story_of w point tracings =
    story_by point (runs_at_point w.control point) (map track_of tracings) (entries_from w.control point) w.tail

-- an output with where it is printed: under the control entry of a number, or under the end, with the task
-- that made it as it stands there
pub record Shown : Type 0 where
  pub seq : ℕ
  pub task : ℕ
  pub at : Marker
  pub output : OutputEntry

-- the outputs that are printed with a task
abbrev pub shown_with : ℕ → View → List OutputEntry → List Shown
shown_with seq view outputs =
    map (λ output. record { seq = seq; task = view.task; at = view.at; output = output }) outputs

abbrev pub shown_left : ℕ → Option Leave → List Shown
shown_left seq None = []
shown_left seq (Some l) = shown_with seq l.view l.outputs

-- the outputs under the control entries
abbrev pub shown_under : List Block → List Shown
shown_under blocks = flat_map (λ block. shown_left block.seq block.leave) blocks

-- the outputs under the end, of this number
abbrev pub shown_last : ℕ → List Last → List Shown
shown_last seq lasts = flat_map (λ last. shown_with seq last.view last.outputs) lasts

-- the outputs of a text in the order in which they were made
abbrev pub shown_in : ℕ → Story → List Shown
shown_in seq story = shown_under story.blocks ++ shown_last seq story.lasts

-- two outputs are of one task, at one port and with one value
abbrev pub output_eq : OutputEntry → OutputEntry → Bool
output_eq a b = a.task == b.task && a.port == b.port && a.value == b.value

-- an output is not the one that was logged in its place
abbrev pub other_at : Shown → OutputEntry → Diverged
other_at made logged = record {
  seq = made.seq;
  task = made.task;
  reached = made.at;
  wanted = made.at;
  why = OtherOutput logged made.output;
}

-- the first output that is not the one that was logged in its place
unfoldable pub first_other : List Shown → List OutputEntry → Option Diverged
first_other [] logged = None
first_other (made ∷ mades) [] = None
first_other (made ∷ mades) (logged ∷ loggeds) =
    if output_eq logged made.output then first_other mades loggeds else Some (other_at made logged)

-- the oldest difference among the last outputs that were made and logged, as many as there are of both
abbrev pub other_output : List Shown → List OutputEntry → Option Diverged
other_output made logged = first_other (keep_last (length logged) made) (keep_last (length made) logged)

-- the replays, where the outputs are those of the window
abbrev pub agreed : Option Diverged → List Tracing → Result (List Tracing) Diverged
agreed None tracings = Ok tracings
agreed (Some x) tracings = Err x

abbrev pub with_outputs : WindowView → ℕ → Result (List Tracing) Diverged → Result (List Tracing) Diverged
with_outputs w point (Ok tracings) =
    agreed (other_output (shown_in (w.control.total + 1) (story_of w point tracings)) w.outputs.items) tracings
with_outputs w point (Err x) = Err x

-- the replay of a window from a point: of all tasks, or the first that is not as the window has it
unfoldable pub replayed : ImageView → WindowView → ℕ → Result (List Tracing) Diverged
replayed image w point = with_outputs w point (replayed_tasks image w point)

-- the window is as the image's tasks would leave it: each does from the point on what it says of it, and
-- their outputs are its own on the last that it has
abbrev pub Fits : ImageView → WindowView → ℕ → Type 0
Fits image w point = IsOk (replayed image w point)

-- the replays of a window that fits, and none of another
abbrev pub tracings_of : Result (List Tracing) Diverged → List Tracing
tracings_of (Ok tracings) = tracings
tracings_of (Err x) = []

-- what a window that fits tells from a point on
abbrev pub window_story : ImageView → WindowView → ℕ → Story
window_story image w point = story_of w point (tracings_of (replayed_tasks image w point))

-- its text
unfoldable pub text_of_window : ImageView → WindowView → ℕ → List ℕ
text_of_window image w point = spelled (window_story image w point)
