-- What the buffers of a recorder tell of its live machine, whatever script it stands for.
use Rattle.std.specs.Prelude.{◌≡◌, ℕ, ◌<◌, ◌≤◌, length, Some, None, Ok}
use Rattle.tm_task.specs.Standing.{marker_of}
use Rattle.tm_task.specs.Place.{Place, start_place}
use Rattle.tm_image.specs.Image.{IsImage}
use Rattle.tm_ring.specs.Kept.{first_of}
use Rattle.tm_check.specs.Checkpoint.{Checkpoint, check_of}
use Rattle.tm_log.specs.Window.{IsWindow, log_of, checks_of}
use Rattle.tm_log.specs.Points.{items_from}
use Rattle.tm_system.specs.Alone.{Comes, walk_to}
use Rattle.tm_system.specs.Tracing.{Tracing}
use Rattle.tm_system.specs.Replaying.{alone_in, replayed_task, Fits}
use Rattle.tm_points.specs.Finder.{lost_of}
use Rattle.tm_record.specs.StandsFor.{RecorderView, IsReal}
use Rattle.tm_record.specs.Recording.{task_in, tail_of}

-- the tail of the window is that of the machine as it stands
abbrev pub TailsAreLive : Type 0
TailsAreLive = (r : RecorderView) → IsImage r.image → IsWindow r.window → IsReal r → r.window.tail ≡ tail_of r.machine

-- from a checkpoint of an epoch and the task's kept data entries since, the task by itself comes to its live
-- marker, and there to where the live task stands, with all these entries used
pub record IsLiveFrom (r : RecorderView) (task epoch : ℕ) (check : Checkpoint) : Type 0 where
  pub place : Place
  pub walks : walk_to (alone_in r.image task (log_of r.window task) check.data_number) (marker_of (task_in r.machine task).standing)
      (start_place check.body epoch) ≡ Comes place
  pub standing : place.standing ≡ (task_in r.machine task).standing
  pub used : place.used ≡ length (items_from (log_of r.window task) check.data_number)

-- it does so from each kept checkpoint since which all of its data entries are kept
abbrev pub CheckpointsAreLive : Type 0
CheckpointsAreLive = (r : RecorderView) (task epoch : ℕ) (check : Checkpoint) → IsImage r.image → IsWindow r.window → IsReal r →
    task < length r.image.loads → check_of (checks_of r.window task) epoch ≡ Some check →
    first_of (log_of r.window task) ≤ check.data_number → IsLiveFrom r task epoch check

-- a task's replay from a point ends where the live task stands
pub record EndsThere (r : RecorderView) (point task : ℕ) : Type 0 where
  pub tracing : Tracing
  pub replays : replayed_task r.image r.window point task ≡ Ok tracing
  pub standing : tracing.place.standing ≡ (task_in r.machine task).standing

-- the window fits from a point, and the replay of each task from there ends where the live task stands
pub record ReplaysToLive (r : RecorderView) (point : ℕ) : Type 0 where
  pub fits : Fits r.image r.window point
  pub tasks : (task : ℕ) → task < length r.image.loads → EndsThere r point task

-- so it is from each point of which nothing is lost
abbrev pub PointsAreLive : Type 0
PointsAreLive = (r : RecorderView) (point : ℕ) → IsImage r.image → IsWindow r.window → IsReal r → lost_of r.window point ≡ None →
    ReplaysToLive r point
