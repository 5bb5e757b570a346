-- The slots in which checkpoints are kept: as many as the capacity, of which the last ones are in use.
use Rattle.std.specs.Prelude.{◌≡◌, ℕ, ◌≤◌, ◌^◌, List, length}
use Rattle.circular_buffer.specs.Buffer.{Buffer}
use Rattle.tm_marker.specs.Shape.{IsCheckCap, IsWordCount}
use Rattle.tm_check.specs.Checkpoint.{Checkpoint, AreSized}

pub record AreSlots (slots : Buffer Checkpoint) (len total size : ℕ) : Type 0 where
  pub cap : IsCheckCap slots.capacity
  pub words : IsWordCount size
  pub full : length slots.items ≡ slots.capacity
  pub fit : len ≤ slots.capacity
  pub among : len ≤ total
  pub counted : total ≤ 2 ^ 53
  pub sized : AreSized size slots.items

-- the bodies of both lists have equally many data words
pub record HaveOneSize (one other : List Checkpoint) : Type 0 where
  pub size : ℕ
  pub first : AreSized size one
  pub second : AreSized size other
