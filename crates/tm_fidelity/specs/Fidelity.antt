-- A replay of the window of a run tells what the run did, from each point from which the run can be replayed.
use Rattle.std.specs.Prelude.{◌≡◌, ℕ, ◌<◌, ◌≤◌, List, length, None, Ok}
use Rattle.tm_marker.specs.declared.entries.Slice.{Slice}
use Rattle.tm_image.specs.Image.{ImageView, IsImage}
use Rattle.tm_system.specs.History.{History}
use Rattle.tm_system.specs.Run.{run}
use Rattle.tm_system.specs.Marks.{standing_at}
use Rattle.tm_system.specs.Controls.{controls, entries, checkpoints}
use Rattle.tm_system.specs.Telling.{text_of_run}
use Rattle.tm_system.specs.Accepted.{IsAccepted}
use Rattle.tm_system.specs.Follows.{IsRun}
use Rattle.tm_system.specs.WindowOf.{window_of}
use Rattle.tm_system.specs.Tracing.{Tracing}
use Rattle.tm_system.specs.Replaying.{replayed_task, Fits, text_of_window}
use Rattle.tm_points.specs.Finder.{lost_of}

-- a task's replay of the window of a run from a point comes, with all its data entries used, to where the
-- task stands at the run's last moment
pub record EndsLive (image : ImageView) (h : History) (point task : ℕ) : Type 0 where
  pub tracing : Tracing
  pub replayed : replayed_task image (window_of image h) point task ≡ Ok tracing
  pub live : tracing.place.standing ≡ standing_at image h task

-- from each point from which a run can be replayed, every task does
abbrev pub ReplaysEndLive : Type 0
ReplaysEndLive = (image : ImageView) (h : History) (point task : ℕ) → IsImage image → IsRun image h → IsAccepted image h point →
    task < length image.loads → EndsLive image h point task

-- the window of a script's run fits from a point, and the text that it tells is the run's from that point
pub record IsFaithful (image : ImageView) (script : List Slice) (point : ℕ) : Type 0 where
  pub fits : Fits image (window_of image (run image script)) point
  pub text : text_of_window image (window_of image (run image script)) point ≡ text_of_run image script point

-- from each point from which a script's run can be replayed, its window tells exactly what the run did
abbrev pub ReplaysAreFaithful : Type 0
ReplaysAreFaithful = (image : ImageView) (script : List Slice) (point : ℕ) → IsImage image →
    IsAccepted image (run image script) point → IsFaithful image script point

-- every list of the run that a replay needs is within the capacity of its buffer
pub record IsWhole (image : ImageView) (h : History) : Type 0 where
  pub controls : length (controls image h) ≤ image.caps.control
  pub entries : (task : ℕ) → task < length image.loads → length (entries task h) ≤ image.caps.logs
  pub checks : (task : ℕ) → task < length image.loads → length (checkpoints image task h) ≤ image.caps.checks

-- where nothing was dropped, nothing is lost of boot, and from there the window tells the whole run
pub record IsWholeReplay (image : ImageView) (script : List Slice) : Type 0 where
  pub found : lost_of (window_of image (run image script)) 0 ≡ None
  pub faithful : IsFaithful image script 0

abbrev pub WholeRunsReplay : Type 0
WholeRunsReplay = (image : ImageView) (script : List Slice) → IsImage image → IsWhole image (run image script) → IsWholeReplay image script
