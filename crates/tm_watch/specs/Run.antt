-- A run: a recorder, and the script that it stands for.
use Rattle.std.specs.Prelude.{List, []}
use Rattle.tm_marker.specs.declared.entries.Slice.{Slice}
use Rattle.tm_image.specs.Image.{ImageView}

-- the image, and the script's slices
pub record RunView : Type 0 where
  pub image : ImageView
  pub script : List Slice

-- the run of no slice
abbrev pub no_run : ImageView → RunView
no_run image = record { image = image; script = [] }
