-- The dump of a run is short, is read, and gives the run's window.
use Rattle.std.specs.Prelude.{◌≡◌, ◌↔◌, ℕ, ◌*◌, ◌<◌, ◌≤◌, ◌^◌, List, length, All, None, Ok}
use Rattle.tm_marker.specs.declared.entries.Slice.{Slice}
use Rattle.tm_image.specs.Image.{ImageView, IsImage, image_of, shape_of}
use Rattle.tm_image.specs.Plan.{IsSlice}
use Rattle.tm_system.specs.Run.{run}
use Rattle.tm_system.specs.Accepted.{IsAccepted}
use Rattle.tm_system.specs.WindowOf.{window_of}
use Rattle.tm_points.specs.Finder.{lost_of}
use Rattle.tm_fidelity.specs.Fidelity.{IsFaithful}
use Rattle.tm_dump.specs.Dump.{dump_bytes}
use Rattle.tm_dump.specs.Reading.{window_in}
use Rattle.tm_widths.specs.Numbers.{FitsImage, FitsSlice}

-- a script: fewer than 2 ^ 32 slices, each within its limits, with port words of 32 bits
pub record IsScript (script : List Slice) : Type 0 where
  pub few : length script < 2 ^ 32
  pub slices : All IsSlice script
  pub ports : All FitsSlice script

-- the image of a text has numbers of 32 bits
abbrev pub ImagesFit : Type 0
ImagesFit = (bytes : List ℕ) (image : ImageView) → image_of bytes ≡ Ok image → FitsImage image

-- what the dump of a script's run gives from a point: it is read as the run's window, from which the finder
-- accepts the point exactly where the run can be replayed from it, and then its replay tells what the run did
pub record IsTold (image : ImageView) (script : List Slice) (point : ℕ) : Type 0 where
  pub read : window_in (shape_of image) (dump_bytes (window_of image (run image script))) ≡ Ok (window_of image (run image script))
  pub found : (lost_of (window_of image (run image script)) point ≡ None) ↔ IsAccepted image (run image script) point
  pub faithful : IsAccepted image (run image script) point → IsFaithful image script point

-- of every image, script and point
abbrev pub DumpsTellRuns : Type 0
DumpsTellRuns = (image : ImageView) (script : List Slice) (point : ℕ) → IsImage image → FitsImage image → IsScript script →
    IsTold image script point

-- the dump of every run is read, and gives the run's window
abbrev pub DumpsOfRunsAreRead : Type 0
DumpsOfRunsAreRead = (image : ImageView) (script : List Slice) → IsImage image → FitsImage image → IsScript script →
    window_in (shape_of image) (dump_bytes (window_of image (run image script))) ≡ Ok (window_of image (run image script))

-- the dump of every run has at most 128 MiB
abbrev pub DumpsOfRunsAreShort : Type 0
DumpsOfRunsAreShort = (image : ImageView) (script : List Slice) → IsImage image → FitsImage image → IsScript script →
    length (dump_bytes (window_of image (run image script))) ≤ 128 * 1024 * 1024
