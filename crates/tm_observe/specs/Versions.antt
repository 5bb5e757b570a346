-- The versions of a run.
use Rattle.std.specs.Prelude.{◌≡◌, ℕ, List, map, length, All}
use mathlib.Core.List.{IsPrefix}
use Rattle.tm_marker.specs.declared.entries.Slice.{Slice}
use Rattle.tm_image.specs.Image.{ImageView}
use Rattle.tm_watch.specs.Dumps.{dump_of}
use Rattle.tm_observe.specs.declared.versions.Versions.{Versions}

-- each of so many observers has the dump of a beginning of the list, and the last look is the dump of the list
pub record AreVersions (image : ImageView) (list : List Slice) (count : ℕ) (v : Versions) : Type 0 where
  pub seen : List (List Slice)
  pub number : length seen ≡ count
  pub prefixes : All (λ s. IsPrefix s list) seen
  pub beside : map (λ bytes. bytes.items) v.beside.items ≡ map (dump_of image) seen
  pub last : v.last.items ≡ dump_of image list
