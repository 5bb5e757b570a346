-- The outputs of a run, and those that its window has kept.
use Rattle.std.specs.Prelude.{◌≡◌, ℕ, ◌≤◌, length, None}
use Rattle.tm_image.specs.Image.{ImageView, IsImage}
use Rattle.tm_system.specs.History.{History}
use Rattle.tm_system.specs.Controls.{controls}
use Rattle.tm_system.specs.Telling.{story}
use Rattle.tm_system.specs.Follows.{IsRun}
use Rattle.tm_system.specs.WindowOf.{window_of}
use Rattle.tm_system.specs.Replaying.{shown_in, other_output}

-- the outputs that the text of a run shows from a point on, in the order in which they were made, are those
-- that the window of the run has kept, as far back as both go
abbrev pub OutputsAgree : Type 0
OutputsAgree = (image : ImageView) (h : History) (point seq : ℕ) → IsImage image → IsRun image h → point ≤ length (controls image h) →
    other_output (shown_in seq (story image point h)) (window_of image h).outputs.items ≡ None
