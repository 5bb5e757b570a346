-- What a watch shows: versions, and the operations that lead from one to the next.
use Rattle.std.specs.Prelude.{◌≡◌, ℕ, ◌-◌, ◌^◌, if◌then◌else◌, nat_lt, List, [], ◌∷◌, ◌++◌, length}
use Rattle.logbook.specs.Pages.{Book}
use Rattle.tm_marker.specs.declared.entries.Slice.{Slice}
use Rattle.tm_image.specs.Image.{ImageView}
use Rattle.tm_watch.specs.declared.version.Version.{Version}
use Rattle.tm_watch.specs.declared.version.Operation.{Operation}
use Rattle.tm_watch.specs.declared.version.Operation.TheVariants.{Nothing, Adds}

-- the version of a list: the run of its slices, and the list
abbrev pub version_of : Book → ImageView → List Slice → Version
version_of book image list = record { run = record { image = image; script = list }; front = record { book = book; list = list } }

-- the version that a version began as, before any slice
abbrev pub origin : Version → Version
origin version = version_of version.front.book version.run.image []

-- the run is of the slices of the list
abbrev pub IsWhole : Version → Type 0
IsWhole version = version.front.list ≡ version.run.script

-- the version after an operation; a recorder that has all slices that it can take stays as it is
abbrev pub after : Version → Operation → Version
after version Nothing = version
after version (Adds entry) =
    if nat_lt (length version.run.script) (2 ^ 32 - 1)
    then record { run = record version.run { script = version.run.script ++ entry.slice ∷ [] }; front = entry.front }
    else version
