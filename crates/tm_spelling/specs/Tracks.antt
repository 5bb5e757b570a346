-- How a text is put together of what each task did by itself.
use Rattle.std.specs.Prelude.{ℕ, ◌+◌, ◌==◌, if◌then◌else◌, List, [], ◌∷◌, map, find, slice_get, Option, option_map, option_and_then}
use Rattle.tm_marker.specs.declared.entries.Switch.{Switch}
use Rattle.tm_marker.specs.declared.entries.OutputEntry.{OutputEntry}
use Rattle.tm_marker.specs.declared.tail.Tail.{Tail}
use Rattle.tm_spelling.specs.Story.{View, Leave, Block, Last, Story}

-- how a task left the processor at the control entry of a number
pub record Stop : Type 0 where
  pub seq : ℕ
  pub leave : Leave

-- one task from the start of a text to its end: how it stands at the start, its stops in rising order,
-- how it stands at the end, and the outputs that it made since its last stop
pub record Track : Type 0 where
  pub start : View
  pub stops : List Stop
  pub last : View
  pub outputs : List OutputEntry

-- the stop of a number, among those of a task
abbrev pub leave_in : ℕ → List Stop → Option Leave
leave_in seq stops = option_map (λ stop. stop.leave) (find (λ stop. stop.seq == seq) stops)

-- how the task that a control entry comes from left there; nobody doesn't leave
abbrev pub leave_by : List Track → ℕ → Switch → Option Leave
leave_by tracks seq entry = option_and_then (λ track. leave_in seq track.stops) (slice_get tracks entry.from)

-- the control entries, of which the first has this number
unfoldable pub blocks_by : List Track → ℕ → List Switch → List Block
blocks_by tracks seq [] = []
blocks_by tracks seq (entry ∷ entries) =
    (record { seq = seq; switch = entry; leave = leave_by tracks seq entry }) ∷ blocks_by tracks (seq + 1) entries

-- a task at the end; its outputs are printed where it is the running one
abbrev pub last_by : ℕ → Track → ℕ → Last
last_by running track state = record {
  state = state;
  view = track.last;
  outputs = if track.last.task == running then track.outputs else [];
}

-- the tasks at the end, each with its state
unfoldable pub lasts_by : ℕ → List Track → List ℕ → List Last
lasts_by running [] states = []
lasts_by running (track ∷ tracks) [] = []
lasts_by running (track ∷ tracks) (state ∷ states) = last_by running track state ∷ lasts_by running tracks states

-- the text from a point, of who runs there, what each task did, the control entries after the point, and
-- the tail
abbrev pub story_by : ℕ → ℕ → List Track → List Switch → Tail → Story
story_by point running tracks entries tail = record {
  from = point;
  running = running;
  starts = map (λ track. track.start) tracks;
  blocks = blocks_by tracks (point + 1) entries;
  last_running = tail.running;
  ended = tail.ended;
  lasts = lasts_by tail.running tracks tail.state;
}
