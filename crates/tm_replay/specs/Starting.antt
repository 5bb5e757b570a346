-- Where the replay of a task starts.
use Rattle.std.specs.Prelude.{◌≡◌, ℕ, unwrap_or}
use Rattle.tm_check.specs.Checkpoint.{Checkpoint, check_of}
use Rattle.tm_image.specs.Image.{ImageView}
use Rattle.tm_log.specs.Window.{WindowView, log_of, checks_of}
use Rattle.tm_task.specs.Place.{start_place}
use Rattle.tm_system.specs.Replaying.{alone_in, no_checkpoint}
use Rattle.tm_replay.specs.declared.walker.Walker.{Walker}
use Rattle.tm_replay.specs.Walking.{alone_of, place_of, IsSound}

-- the checkpoint of a task's epoch
abbrev pub check_at : WindowView → ℕ → ℕ → Checkpoint
check_at w task epoch = unwrap_or (check_of (checks_of w task) epoch) no_checkpoint

-- the task stands at the checkpoint of an epoch, with its data entries from the checkpoint's number on
pub record StartsAt (image : ImageView) (w : WindowView) (task epoch : ℕ) (walker : Walker) : Type 0 where
  pub number : walker.number ≡ task
  pub alone : alone_of walker ≡ alone_in image task (log_of w task) (check_at w task epoch).data_number
  pub place : place_of walker ≡ start_place (check_at w task epoch).body epoch
  pub sound : IsSound walker
