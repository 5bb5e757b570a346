-- Buffers that are made for a shape.
use Rattle.std.specs.Prelude.{◌≡◌, ℕ, List, map, length, All}
use Rattle.tm_marker.specs.declared.entries.DataEntry.{DataEntry}
use Rattle.tm_marker.specs.declared.shape.Caps.{Caps}
use Rattle.tm_ring.specs.Kept.{Kept}
use Rattle.tm_check.specs.Checkpoint.{KeptChecks}

-- one ring of data entries and one list of checkpoints for each task of so many data words
pub record AreOf (caps : Caps) (words : List ℕ) (logs : List (Kept DataEntry)) (checks : List KeptChecks) : Type 0 where
  pub tasks : length logs ≡ length words
  pub log_caps : All (λ ring. ring.cap ≡ caps.logs) logs
  pub check_caps : All (λ kept. kept.cap ≡ caps.checks) checks
  pub check_words : map (λ kept. kept.words) checks ≡ words
