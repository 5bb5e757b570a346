-- The summary of a run, and how it is spelled.
use Rattle.std.specs.Prelude.{ℕ, List, [], ◌∷◌, ◌++◌, length, slice_get, codes, decimal, Option, Some, None}
use Rattle.tm_marker.specs.declared.entries.Slice.{Slice}
use Rattle.tm_image.specs.Image.{ImageView}
use Rattle.tm_log.specs.Window.{WindowView}
use Rattle.tm_points.specs.Points.{points_of}
use Rattle.tm_system.specs.Run.{run}
use Rattle.tm_system.specs.Controls.{controls}
use Rattle.tm_system.specs.Telling.{text_of_run}
use Rattle.tm_system.specs.WindowOf.{window_of}
use Rattle.tm_system.specs.Replaying.{text_of_window}
use Rattle.tm_make.specs.declared.summary.Summary.{Summary}
use Rattle.tm_make.specs.Script.{make_script}

-- a line of a summary: a name, and its value
abbrev pub line : List ℕ → List ℕ → List ℕ
line name value = name ++ codes " " ++ value ++ 10 ∷ []

-- a point in decimal digits, and `-` where there is none
abbrev pub point_text : Option ℕ → List ℕ
point_text None = codes "-"
point_text (Some point) = decimal point

-- a summary in six lines
unfoldable pub summary_text : Summary → List ℕ
summary_text s =
    line (codes "make") (decimal s.number) ++
    line (codes "slices") (decimal s.slices) ++
    line (codes "entries") (decimal s.entries) ++
    line (codes "points") (decimal s.points) ++
    line (codes "least") (point_text s.least) ++
    line (codes "bytes") (decimal s.bytes)

-- the points from which the run of a script can be replayed out of its window, rising
abbrev pub points_of_run : ImageView → List Slice → List ℕ
points_of_run image script = points_of (window_of image (run image script))

-- the length of the text of the run from a point, and 0 where there is none
abbrev pub length_from : ImageView → List Slice → Option ℕ → ℕ
length_from image script None = 0
length_from image script (Some point) = length (text_of_run image script point)

-- the same of the text that a window tells
abbrev pub length_told : ImageView → WindowView → Option ℕ → ℕ
length_told image w None = 0
length_told image w (Some point) = length (text_of_window image w point)

-- the summary of the run that a number makes on an image: how many control entries it has and how many points
-- from which it can be replayed, the least of them, and the length of the text from there
abbrev pub summary_of : ImageView → ℕ → Summary
summary_of image number =
    let script = make_script number in
    let least = slice_get (points_of_run image script) 0 in
    record {
      number = number;
      slices = length script;
      entries = length (controls image (run image script));
      points = length (points_of_run image script);
      least = least;
      bytes = length_from image script least;
    }
