-- How large the buffers of a recorder may be.
use Rattle.std.specs.Prelude.{◌≡◌, ℕ, ◌<◌, ◌≤◌, length, All}
use Rattle.tm_marker.specs.declared.shape.Caps.{Caps}
use Rattle.tm_marker.specs.declared.shape.Shape.{Shape}
use Rattle.tm_marker.specs.declared.shape.TheConstants.{MOST_TASKS, MOST_WORDS, MOST_ITEMS, MOST_CHECKPOINTS}

-- how many items a ring can keep
pub record IsRingCap (cap : ℕ) : Type 0 where
  pub some : 0 < cap
  pub few : cap ≤ MOST_ITEMS

-- how many checkpoints can be kept for each task
pub record IsCheckCap (cap : ℕ) : Type 0 where
  pub some : 0 < cap
  pub few : cap ≤ MOST_CHECKPOINTS

-- how many data words a task can have
pub record IsWordCount (words : ℕ) : Type 0 where
  pub some : 0 < words
  pub few : words ≤ MOST_WORDS

pub record IsCaps (caps : Caps) : Type 0 where
  pub control : IsRingCap caps.control
  pub logs : IsRingCap caps.logs
  pub outputs : IsRingCap caps.outputs
  pub checks : IsCheckCap caps.checks

-- the digest has 32 bytes, the capacities are within their limits, and there is a task, and no more than there may be
pub record IsShape (shape : Shape) : Type 0 where
  pub image : length shape.image ≡ 32
  pub caps : IsCaps shape.caps
  pub some_task : 0 < length shape.words
  pub few_tasks : length shape.words ≤ MOST_TASKS
  pub words : All IsWordCount shape.words
