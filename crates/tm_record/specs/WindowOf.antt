-- The window of a recorder is that of its script's run.
use Rattle.std.specs.Prelude.{◌≡◌, List}
use Rattle.tm_marker.specs.declared.entries.Slice.{Slice}
use Rattle.tm_image.specs.Image.{ImageView, IsImage}
use Rattle.tm_log.specs.Window.{IsWindow}
use Rattle.tm_system.specs.Run.{run}
pub use Rattle.tm_system.specs.WindowOf.{last_items, last_checks, tail_at, window_of}
use Rattle.tm_record.specs.StandsFor.{RecorderView, StandsFor}

-- the window of a recorder is that of the run of the script that it stands for
abbrev pub WindowsAreOfRuns : Type 0
WindowsAreOfRuns = (image : ImageView) (r : RecorderView) (script : List Slice) → IsImage image → IsWindow r.window →
    StandsFor image r script → r.window ≡ window_of image (run image script)
