-- The plain answer to `replay IMAGE DUMP --from P`, which is the same for every number of workers.
use Rattle.std.specs.Prelude.{ℕ, List, Option, Some, None, Result, Ok, Err}
use Rattle.tm_image.specs.Image.{ImageView}
use Rattle.tm_log.specs.Window.{WindowView}
use Rattle.tm_points.specs.declared.finder.Lost.{Lost}
use Rattle.tm_points.specs.Finder.{lost_of}
use Rattle.tm_system.specs.declared.diverged.Diverged.{Diverged}
use Rattle.tm_system.specs.Tracing.{Tracing}
use Rattle.tm_system.specs.Replaying.{replayed, text_of_window}
use Rattle.tm_prog.specs.declared.status.Status.{Status}
use Rattle.tm_prog.specs.declared.status.Status.TheVariants.{Point, Diverged as DivergedStatus}
use Rattle.tm_prog.specs.Made.{MadeView, text_alone}
use Rattle.tm_prog.specs.Reads.{◌>>=◌}
use Rattle.tm_prog.specs.Files.{image_in, window_file_in}

-- a window that the tasks' replays fit tells its text; another says where they diverged
abbrev pub told_from : ImageView → WindowView → ℕ → Result (List Tracing) Diverged → Result MadeView Status
told_from image window point (Ok tracings) = Ok (text_alone (text_of_window image window point))
told_from image window point (Err found) = Err (DivergedStatus found)

-- the point is refused where something is lost that a replay from it needs
abbrev pub unless_lost : ImageView → WindowView → ℕ → Option Lost → Result MadeView Status
unless_lost image window point (Some lost) = Err (Point lost)
unless_lost image window point None = told_from image window point (replayed image window point)

-- the text that the dump tells of its run from the point on
abbrev pub replay_made : (List ℕ → Option (List ℕ)) → List ℕ → List ℕ → ℕ → Option (Result MadeView Status)
replay_made content image dump point =
    image_in (content image) >>= λ image. window_file_in image (content dump) >>= λ window. Some (unless_lost image window point (lost_of window point))
