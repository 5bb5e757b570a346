-- The rule of the versions that a watch shows, and what its steps tell.
use Rattle.std.specs.Prelude.{◌≡◌, ℕ, List, Option, Some}
use mathlib.Core.Option.{some}
use lib.ListN.{get_elem?}
use Rattle.tm_watch.specs.declared.version.Version.{Version}
use Rattle.tm_watch.specs.Versions.{origin, IsWhole}

-- the run of the version is of its list, and who knows an origin knows that of the version
pub record Keeps (version : Version) (views : List (Option Version)) : Type 0 where
  pub whole : IsWhole version
  pub known : (seat : ℕ) (first : Version) → get_elem? views seat ≡ some (Some first) → first ≡ origin version

-- a reader sees a version whose run is of its list, and which has the origin that the reader knows
pub record Sees (before : Option Version) (old new : Version) (after : Option Version) : Type 0 where
  pub same : after ≡ before
  pub whole : IsWhole new
  pub known : (first : Version) → before ≡ Some first → first ≡ origin new

-- the writer, which shows a version, knows its origin
abbrev pub Shows : Option Version → Version → Version → Option Version → Type 0
Shows before old new after = after ≡ Some (origin new)
