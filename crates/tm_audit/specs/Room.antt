-- Writing at the end of a vector that has room.
use Rattle.std.specs.Prelude.{◌≡◌, ℕ, ◌+◌, ◌≤◌, List, ◌++◌, length, Vec, vec_len, vec_capacity}

-- so many more items fit without taking memory
abbrev pub HasRoom : {Z : Type 0} → Vec ℕ Z → ℕ → Type 0
HasRoom v more = vec_len v + more ≤ vec_capacity v

-- the vector gained these bytes at its end, and its capacity did not shrink
pub record Gains {Z : Type 0} (old new : Vec ℕ Z) (bytes : List ℕ) : Type 0 where
  pub items : new.items ≡ old.items ++ bytes
  pub len : vec_len new ≡ vec_len old + length bytes
  pub capacity : vec_capacity old ≤ vec_capacity new
