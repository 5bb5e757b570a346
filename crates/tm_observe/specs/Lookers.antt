-- What contracts see of an observer that looks beside a run.
use Rattle.std.specs.Prelude.{◌≡◌, ℕ, ◌<◌, ◌≤◌, Bool, false, List, [], ◌∷◌, ◌++◌, length, slice_index_or}
use mathlib.Core.List.{IsPrefix}
use Rattle.tm_marker.specs.declared.entries.Slice.{Slice}
use Rattle.tm_image.specs.Image.{ImageView}
use Rattle.tm_watch.specs.Views.{Watched, Observed}
use Rattle.tm_watch.specs.Dumps.{dump_of}

-- the observer, the bytes of its last look, and whether a look found too little memory
pub record LookerView : Type 0 where
  pub observer : Observed
  pub version : List ℕ
  pub starved : Bool

-- so many looks were made: what was seen went on, and where each look found memory the bytes are the dump of what the last one saw
pub record Looked (looks : ℕ) (before after : LookerView) : Type 0 where
  pub book : after.observer.book ≡ before.observer.book
  pub image : after.observer.image ≡ before.observer.image
  pub told : after.observer.told ≡ before.observer.told
  pub seen : IsPrefix before.observer.seen after.observer.seen
  pub version : 0 < looks → after.starved ≡ false → after.version ≡ dump_of before.observer.image after.observer.seen

-- each observer made so many looks
pub record AllLooked (looks : ℕ) (before after : List LookerView) : Type 0 where
  pub number : length after ≡ length before
  pub each : (k : ℕ) (d : LookerView) → k < length before → Looked looks (slice_index_or before k d) (slice_index_or after k d)

-- an observer of a watch, whose bytes are the dump of what it saw, where each look found memory
pub record IsShown (watch : Watched) (looker : LookerView) : Type 0 where
  pub book : looker.observer.book ≡ watch.book
  pub image : looker.observer.image ≡ watch.image
  pub version : looker.starved ≡ false → looker.version ≡ dump_of watch.image looker.observer.seen

-- the bytes that an observer gives away, where each look found memory: those of its last look, which are the dump of a
-- beginning of the list, or else, if it saw more slices than the list has, the dump of some beginning of it
pub record IsVersion (image : ImageView) (list : List Slice) (looker : LookerView) (bytes : List ℕ) : Type 0 where
  pub fed : looker.starved ≡ false
  pub beginning : List Slice
  pub begins : IsPrefix beginning list
  pub dump : bytes ≡ dump_of image beginning
  pub own : length looker.observer.seen ≤ length list → bytes ≡ looker.version

-- an observer that was told one list more
abbrev pub with_told : Observed → List Slice → Observed
with_told observer list = record observer { told = observer.told ++ list ∷ [] }

-- each observer was told one list more
pub record AllTold (list : List Slice) (before after : List LookerView) : Type 0 where
  pub number : length after ≡ length before
  pub each : (k : ℕ) (d : LookerView) → k < length before → (slice_index_or after k d).observer ≡ with_told (slice_index_or before k d).observer list
