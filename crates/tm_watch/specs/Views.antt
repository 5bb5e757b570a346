-- What contracts see of a watch, of its observers and of its notes.
use Rattle.std.specs.Prelude.{List, []}
use Rattle.logbook.specs.Pages.{Book}
use Rattle.tm_marker.specs.declared.entries.Slice.{Slice}
use Rattle.tm_image.specs.Image.{ImageView}

-- which watch it is, its image, and the slices that it published
pub record Watched : Type 0 where
  pub book : Book
  pub image : ImageView
  pub list : List Slice

-- of which watch, and a list of slices that it had published
pub record Told : Type 0 where
  pub book : Book
  pub list : List Slice

-- of which watch, that watch's image, the list of slices of the last look, and each list that was told
pub record Observed : Type 0 where
  pub book : Book
  pub image : ImageView
  pub seen : List Slice
  pub told : List (List Slice)

-- an observer that has seen no slice and was told nothing
abbrev pub newcomer : Book → ImageView → Observed
newcomer book image = record { book = book; image = image; seen = []; told = [] }
