-- A run is the list of its moments, the latest first; the empty list is boot.
use Rattle.std.specs.Prelude.{ℕ, Bool, List, Option}
use Rattle.tm_marker.specs.declared.body.Body.{Body}
use Rattle.tm_marker.specs.declared.entries.DataEntry.{DataEntry}
use Rattle.tm_marker.specs.declared.entries.OutputEntry.{OutputEntry}
use Rattle.tm_marker.specs.declared.entries.Kind.{Kind}
use Rattle.tm_task.specs.declared.outcome.Cause.{Cause}
use Rattle.tm_kernel.specs.State.{KernelState}

-- what was done at a moment: the lines of a mask arrived with the ports' words; or the running task
-- went on by one instruction, by a backward transfer or without; or its call was answered; or it faulted
pub data Deed : Type 0 where
  Arrives : (mask : ℕ) → (ports : List ℕ) → Deed
  Steps : (task : ℕ) → (back : Bool) → Deed
  Answers : (task : ℕ) → (entry : DataEntry) → (output : Option OutputEntry) → Deed
  Faulted : (task : ℕ) → (cause : Cause) → Deed

-- the whole state: every task's body, and the kernel
pub record Whole : Type 0 where
  pub bodies : List Body
  pub kernel : KernelState

-- a moment: what was done, why the running task left the processor by itself, where it did, and the
-- whole state afterwards
pub record Moment : Type 0 where
  pub deed : Deed
  pub leaves : Option Kind
  pub after : Whole

-- the moments of a run, the latest first
abbrev pub History : Type 0
History = List Moment
