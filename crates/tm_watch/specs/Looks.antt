-- What a look finds.
use Rattle.std.specs.Prelude.{◌≡◌, Option, Some}
use mathlib.Core.List.{IsPrefix}
use Rattle.tm_watch.specs.declared.version.Version.{Version}
use Rattle.tm_watch.specs.Views.{Told}
use Rattle.tm_watch.specs.Versions.{origin, IsWhole}

-- a version whose list both lists begin, which has the origin that the reader knew and knows
pub record Reaches (before : Option Version) (seen told : Told) (after : Option Version) (version : Version) : Type 0 where
  pub same : after ≡ before
  pub known : before ≡ Some (origin version)
  pub whole : IsWhole version
  pub later : IsPrefix seen.list version.front.list
  pub no_less : IsPrefix told.list version.front.list
