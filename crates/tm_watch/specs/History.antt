-- The book of a watch: the list of published slices, which only grows, and the word that has its length.
use Rattle.std.specs.Prelude.{◌≡◌, ℕ, ◌==◌, true, List, [], ◌∷◌, ◌++◌, length, MatchBool}
use mathlib.Core.List.{IsPrefix}
use Rattle.logbook.specs.Pages.{Cell, Step, View, Book, Named}
use Rattle.tm_marker.specs.declared.entries.Slice.{Slice}
use Rattle.tm_watch.specs.Views.{Told}

-- the book's one word is the length of the list
abbrev pub IsKept : List Cell → List Slice → Type 0
IsKept cells list = cells ≡ (length list, true) ∷ []

-- the word of a book
abbrev pub head_of : Book → Named
head_of book = record { tracked = true; key = 0; book = book }

-- the slice was added to the list that had been seen, where that list had the length found; else a list of
-- that length was seen
abbrev pub Adds : Step Slice → View Slice ℕ → ℕ → View Slice ℕ → Type 0
Adds step before found after = MatchBool (found == step.old) (after.0 ≡ before.0 ++ step.ask ∷ []) (length after.0 ≡ found)

-- a list with one slice more
abbrev pub with_slice : Told → Slice → Told
with_slice told slice = record told { list = told.list ++ slice ∷ [] }

-- of the same watch, the first list begins the second
pub record IsBeginning (first second : Told) : Type 0 where
  pub book : second.book ≡ first.book
  pub list : IsPrefix first.list second.list
