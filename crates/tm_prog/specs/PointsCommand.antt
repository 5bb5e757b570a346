-- The plain answer to `points IMAGE DUMP`.
use Rattle.std.specs.Prelude.{ℕ, List, [], ◌∷◌, ◌++◌, decimal, Option, Result}
use Rattle.std.specs.List.{flat_map}
use Rattle.tm_points.specs.Points.{points_of}
use Rattle.tm_prog.specs.declared.status.Status.{Status}
use Rattle.tm_prog.specs.Made.{MadeView, prints}
use Rattle.tm_prog.specs.Reads.{◌>>=◌}
use Rattle.tm_prog.specs.Files.{image_in, window_file_in}

-- a point in a line of its own, in decimal digits
abbrev pub point_line : ℕ → List ℕ
point_line point = decimal point ++ 10 ∷ []

-- the points from which the dump can be replayed, rising
abbrev pub points_made : (List ℕ → Option (List ℕ)) → List ℕ → List ℕ → Option (Result MadeView Status)
points_made content image dump =
    image_in (content image) >>= λ image. window_file_in image (content dump) >>= λ window. prints (flat_map point_line (points_of window))
