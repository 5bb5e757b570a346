-- Counts that grow line by line.
use Rattle.std.proofs.Common.{◌≡◌, ℕ, ◌+◌, ◌<◌, ◌≤◌, List, length, get_or}
use Rattle.tm_irq.specs.Tallies.{capped}

-- the lines below this one have grown, and the others not yet
pub record GainsBelow (at : ℕ) (old new : List ℕ) (more : ℕ → ℕ) : Type 0 where
  pub same : length new ≡ length old
  pub done : (line : ℕ) → line < at → get_or new line 0 ≡ capped (get_or old line 0 + more line)
  pub rest : (line : ℕ) → at ≤ line → get_or new line 0 ≡ get_or old line 0
