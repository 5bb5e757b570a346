-- What the printed text tells of the values that are handed to it.
use Rattle.std.specs.Prelude.{ℕ, ◌==◌, if◌then◌else◌, List, [], ◌∷◌, map, Option, option_map}
use Rattle.tm_marker.specs.declared.entries.Switch.{Switch}
use Rattle.tm_log.specs.Points.{entries_from}
use Rattle.tm_log.specs.Window.{WindowView}
use Rattle.tm_spelling.specs.Story.{View, Leave, Block, Last, Story}
use Rattle.tm_spelling.specs.Tracks.{Stop as ToldStop, Track as ToldTrack, story_by}
use Rattle.tm_text.specs.declared.seen.Replay.{Replay}
use Rattle.tm_text.specs.declared.seen.Seen.{Seen}
use Rattle.tm_text.specs.declared.seen.Stop.{Stop}
use Rattle.tm_text.specs.declared.seen.Track.{Track}

-- a task as it is printed
abbrev pub view_of : Seen → View
view_of s = record { task = s.task; at = s.at; regs = s.regs; changed = s.changed }

-- how a task left
abbrev pub leave_of : Stop → Leave
leave_of s = record { cause = s.cause; view = view_of s.seen; outputs = s.outputs }

-- a control entry with its number, and how the task that it comes from left
abbrev pub block_of : ℕ → Switch → Option Stop → Block
block_of seq s stop = record { seq = seq; switch = s; leave = option_map leave_of stop }

-- a task at the end; its outputs are printed where it is the running one
abbrev pub last_of : ℕ → Track → ℕ → Last
last_of running track state = record {
  state = state;
  view = view_of track.last;
  outputs = if track.last.task == running then track.outputs else [];
}

-- the tasks at the end, each with its state
abbrev pub lasts_of : ℕ → List Track → List ℕ → List Last
lasts_of running [] states = []
lasts_of running (track ∷ tracks) [] = []
lasts_of running (track ∷ tracks) (state ∷ states) =
    last_of running track state ∷ lasts_of running tracks states

-- a stop, and the track of a task, by what the text tells of them
abbrev pub stop_view : Stop → ToldStop
stop_view s = record { seq = s.seq; leave = leave_of s }

abbrev pub track_view : Track → ToldTrack
track_view t = record {
  start = view_of t.start;
  stops = map stop_view t.stops;
  last = view_of t.last;
  outputs = t.outputs;
}

-- what the text of a replay of a window tells: who left at each control entry after the point, and when,
-- is the window's, and how is the tracks'
abbrev pub replay_story : Replay → WindowView → Story
replay_story r w =
    story_by r.from r.running (map track_view r.tracks) (entries_from w.control r.from) w.tail
