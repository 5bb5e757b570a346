-- What a text that grows keeps.
use Rattle.std.specs.Prelude.{◌≡◌, ℕ, List, length, take}

-- the text begins with these bytes
pub record BeginsWith (text start : List ℕ) : Type 0 where
  pub is : take (length start) text ≡ start

-- what the old text begins with, the new one does too
abbrev pub Keeps : List ℕ → List ℕ → Type 0
Keeps old new = (start : List ℕ) → BeginsWith old start → BeginsWith new start
