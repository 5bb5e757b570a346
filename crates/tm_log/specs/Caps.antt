-- Equal capacities of the buffers of two windows.
use Rattle.std.specs.Prelude.{◌≡◌, ℕ, List, All}
use Rattle.tm_ring.specs.Kept.{Kept}
use Rattle.tm_check.specs.Checkpoint.{KeptChecks}

-- the rings of both lists have one capacity
pub record HaveOneCap {X : Type 0} (one other : List (Kept X)) : Type 0 where
  pub cap : ℕ
  pub first : All (λ ring. ring.cap ≡ cap) one
  pub second : All (λ ring. ring.cap ≡ cap) other

-- the checkpoints of both lists have one capacity
pub record KeepOneCap (one other : List KeptChecks) : Type 0 where
  pub cap : ℕ
  pub first : All (λ checks. checks.cap ≡ cap) one
  pub second : All (λ checks. checks.cap ≡ cap) other
