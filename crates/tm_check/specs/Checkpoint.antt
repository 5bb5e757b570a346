-- The checkpoints of a task: the last ones, with how many there were.
use Rattle.std.specs.Prelude.{◌≡◌, ℕ, ◌+◌, ◌-◌, ◌<◌, ◌≤◌, ◌^◌, ◌==◌, if◌then◌else◌, nat_lt, List, [], ◌∷◌, ◌++◌, length, slice_get, Option, Some, None, All}
use Rattle.circular_buffer.specs.Buffer.{keep_last}
use Rattle.tm_marker.specs.declared.body.Body.{Body}
use Rattle.tm_marker.specs.Shape.{IsCheckCap, IsWordCount}

-- a checkpoint: the task's body, and the totals of its data entries and of the control entries then
pub record Checkpoint : Type 0 where
  pub body : Body
  pub data_number : ℕ
  pub control_number : ℕ

abbrev pub checkpoint : Body → ℕ → ℕ → Checkpoint
checkpoint body data_number control_number =
    record { body = body; data_number = data_number; control_number = control_number }

-- the kept checkpoints, oldest first; how many there were in all; how many are kept at most; and how
-- many data words each body has
pub record KeptChecks : Type 0 where
  pub items : List Checkpoint
  pub total : ℕ
  pub cap : ℕ
  pub words : ℕ

abbrev pub kept_checks : List Checkpoint → ℕ → ℕ → ℕ → KeptChecks
kept_checks items total cap words = record { items = items; total = total; cap = cap; words = words }

-- the epoch of the oldest kept checkpoint: the checkpoint of epoch e is the task's checkpoint number e
abbrev pub first_epoch : KeptChecks → ℕ
first_epoch checks = checks.total - length checks.items

-- the checkpoint of an epoch, where it is kept
abbrev pub check_of : KeptChecks → ℕ → Option Checkpoint
check_of checks epoch =
    if nat_lt epoch (first_epoch checks) then None else slice_get checks.items (epoch - first_epoch checks)

-- one more checkpoint: the oldest goes where as many as the capacity are kept
abbrev pub pushed_check : KeptChecks → Checkpoint → KeptChecks
pushed_check checks c =
    kept_checks (keep_last checks.cap (checks.items ++ c ∷ [])) (checks.total + 1) checks.cap checks.words

-- the checkpoint of this epoch is kept
pub record IsCheckKept (checks : KeptChecks) (epoch : ℕ) : Type 0 where
  pub reached : first_epoch checks ≤ epoch
  pub made : epoch < checks.total

-- every body has this many data words
abbrev pub AreSized : ℕ → List Checkpoint → Type 0
AreSized words items = All (λ c. length c.body.words ≡ words) items

-- what the checkpoints of every task keep: no more than the capacity, no more than there were, and
-- bodies of one size
pub record IsChecks (checks : KeptChecks) : Type 0 where
  pub cap : IsCheckCap checks.cap
  pub words : IsWordCount checks.words
  pub fit : length checks.items ≤ checks.cap
  pub among : length checks.items ≤ checks.total
  pub counted : checks.total ≤ 2 ^ 53
  pub sized : AreSized checks.words checks.items

-- the last checkpoints of a list are kept, and the list's length is the total
pub record HoldsChecks (checks : KeptChecks) (all : List Checkpoint) : Type 0 where
  pub items : checks.items ≡ keep_last checks.cap all
  pub total : checks.total ≡ length all

-- a body read by places: place 0 is the pc, 1 to 31 are the registers, 32 + i is data word i
abbrev pub place_in : Body → ℕ → Option ℕ
place_in body place =
    if place == 0 then Some body.pc
    else if nat_lt place 32 then slice_get body.regs (place - 1)
    else slice_get body.words (place - 32)
