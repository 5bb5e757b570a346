-- How lists go on: what a drive adds stands after what was there before.
use Rattle.std.specs.Prelude.{◌≡◌, ℕ, List, ◌++◌, length, drop}

-- what a list has after as many items as it had before
abbrev pub added : {X : Type 0} → List X → List X → List X
added before after = drop (length before) after

-- the list goes on by so many items
pub record GrewBy {X : Type 0} (count : ℕ) (before after : List X) : Type 0 where
  pub kept : after ≡ before ++ added before after
  pub size : length (added before after) ≡ count
