-- What the types of a window's parts give: how large each number is, and how long each array.
use Rattle.std.specs.Prelude.{◌≡◌, ℕ, ◌<◌, ◌^◌, length, All}
use Rattle.tm_marker.specs.declared.marker.Marker.{Marker}
use Rattle.tm_marker.specs.declared.entries.Switch.{Switch}
use Rattle.tm_marker.specs.declared.entries.DataEntry.{DataEntry}
use Rattle.tm_marker.specs.declared.entries.OutputEntry.{OutputEntry}
use Rattle.tm_ring.specs.Kept.{Kept}
use Rattle.tm_check.specs.Checkpoint.{Checkpoint, KeptChecks}
use Rattle.tm_log.specs.Window.{WindowView}

-- a number of 32 bits
abbrev pub IsWord : ℕ → Type 0
IsWord n = n < 2 ^ 32

pub record FitsMarker (m : Marker) : Type 0 where
  pub epoch : m.epoch < 2 ^ 64
  pub pc : IsWord m.pc

pub record FitsSwitch (e : Switch) : Type 0 where
  pub from_at : FitsMarker e.from_at
  pub to_at : FitsMarker e.to_at

pub record FitsData (e : DataEntry) : Type 0 where
  pub four : length e.words ≡ 4
  pub words : All IsWord e.words

pub record FitsCheckpoint (c : Checkpoint) : Type 0 where
  pub pc : IsWord c.body.pc
  pub registers : length c.body.regs ≡ 31
  pub regs : All IsWord c.body.regs
  pub words : All IsWord c.body.words

-- each number of the window fits its type, and each array has its length
pub record Fits (w : WindowView) : Type 0 where
  pub control : All FitsSwitch w.control.items
  pub outputs : All (λ (e : OutputEntry). IsWord e.value) w.outputs.items
  pub logs : All (λ (ring : Kept DataEntry). All FitsData ring.items) w.logs
  pub checks : All (λ (kept : KeptChecks). All FitsCheckpoint kept.items) w.checks
  pub at : All (λ (m : Marker). IsWord m.pc) w.tail.at
