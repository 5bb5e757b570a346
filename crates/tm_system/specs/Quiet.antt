-- Histories that differ by moments that add to no list.
use Rattle.std.specs.Prelude.{◌≡◌, ℕ, ◌≤◌, length}
use Rattle.tm_image.specs.Image.{ImageView}
use Rattle.tm_system.specs.History.{History}
use Rattle.tm_system.specs.Run.{running_at}
use Rattle.tm_system.specs.Controls.{controls, entries, outputs, checkpoints}
use Rattle.tm_system.specs.Telling.{printed, pending, blocks}

-- the second history has every list of the first, and the same task runs
pub record AddsNothing (image : ImageView) (h g : History) : Type 0 where
  pub running : running_at image g ≡ running_at image h
  pub printed : (p task : ℕ) → p ≤ length (controls image h) → printed image p task g ≡ printed image p task h
  pub pending : (task : ℕ) → pending image task g ≡ pending image task h
  pub blocks : (p : ℕ) → blocks image p g ≡ blocks image p h
  pub checkpoints : (task : ℕ) → checkpoints image task g ≡ checkpoints image task h
  pub entries : (task : ℕ) → entries task g ≡ entries task h
  pub outputs : outputs g ≡ outputs h
  pub controls : controls image g ≡ controls image h
