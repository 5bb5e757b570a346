-- How a kept checkpoint is named to callers.
use Rattle.std.specs.Prelude.{ℕ}
use Rattle.tm_check.specs.declared.checks.CheckRef.{CheckRef}
use Rattle.tm_check.specs.Checkpoint.{Checkpoint}

-- the checkpoint of an epoch by its numbers
abbrev pub ref_of : ℕ → Checkpoint → CheckRef
ref_of epoch c = record { epoch = epoch; data_no = c.data_number; control_no = c.control_number }
