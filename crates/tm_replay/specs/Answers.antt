-- What a replay answers.
use Rattle.std.specs.Prelude.{◌≡◌, ℕ, List, length, map, Result, Ok, Err, Some, None}
use Rattle.tm_image.specs.Image.{ImageView}
use Rattle.tm_log.specs.Window.{WindowView}
use Rattle.tm_points.specs.Finder.{lost_of}
use Rattle.tm_system.specs.Replaying.{replayed, replayed_task, replayed_tasks, Fits, window_story}
use Rattle.tm_system.specs.Tracing.{Tracing, track_of}
use Rattle.tm_system.specs.declared.diverged.Diverged.{Diverged}
use Rattle.tm_text.specs.Views.{track_view, replay_story}
use Rattle.tm_text.specs.declared.seen.Track.{Track}
use Rattle.tm_text.specs.declared.seen.Replay.{Replay}
use Rattle.tm_replay.specs.declared.fault.ReplayFault.{ReplayFault}
use Rattle.tm_replay.specs.declared.fault.ReplayFault.TheVariants.{Lost, Memory, Diverged as HasDiverged}
use Rattle.tm_replay.specs.Meeting.{IsTold}

-- of one task: what the text tells of it from the point on; or what is lost that the replay needs; or the
-- first demand that the task doesn't meet; want of memory tells nothing
abbrev pub AnswersTask : ImageView → WindowView → ℕ → ℕ → Result Track ReplayFault → Type 0
AnswersTask image w point task (Ok track) = (lost_of w point ≡ None) × IsTold (replayed_task image w point task) track
AnswersTask image w point task (Err (Lost lost)) = lost_of w point ≡ Some lost
AnswersTask image w point task (Err (HasDiverged d)) = (lost_of w point ≡ None) × (replayed_task image w point task ≡ Err d)
AnswersTask image w point task (Err Memory) = Unit {0}

-- the window fits the image from the point on, and this is what it tells from there
pub record IsReplay (image : ImageView) (w : WindowView) (point : ℕ) (replay : Replay) : Type 0 where
  pub accepted : lost_of w point ≡ None
  pub fits : Fits image w point
  pub from : replay.from ≡ point
  pub tasks : length replay.tracks ≡ length w.shape.words
  pub story : replay_story replay w ≡ window_story image w point

-- of the whole window: what it tells from the point on; or what is lost; or the first thing that is not as
-- the window has it, by tasks in rising number and then by the outputs; want of memory tells nothing
abbrev pub Answers : ImageView → WindowView → ℕ → Result Replay ReplayFault → Type 0
Answers image w point (Ok replay) = IsReplay image w point replay
Answers image w point (Err (Lost lost)) = lost_of w point ≡ Some lost
Answers image w point (Err (HasDiverged d)) = (lost_of w point ≡ None) × (replayed image w point ≡ Err d)
Answers image w point (Err Memory) = Unit {0}

-- the replays of tasks one after another, and what the text tells of them
pub record AreTold (replays : Result (List Tracing) Diverged) (tracks : List Track) : Type 0 where
  pub tracings : List Tracing
  pub replay : replays ≡ Ok tracings
  pub told : map track_view tracks ≡ map track_of tracings

-- of tasks that come to these replays one after another: what the text tells of them, or the first demand
-- that isn't met by the least task that has one
abbrev pub TellsAll : Result (List Tracing) Diverged → Result (List Track) ReplayFault → Type 0
TellsAll replays (Ok tracks) = AreTold replays tracks
TellsAll replays (Err (Lost lost)) = ⊥
TellsAll replays (Err (HasDiverged d)) = replays ≡ Err d
TellsAll replays (Err Memory) = Unit {0}
