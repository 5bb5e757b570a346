-- The kernel's part of a drive.
use Rattle.std.specs.Prelude.{◌≡◌, ℕ, ◌+◌, ◌-◌, List, [], ◌∷◌, ◌++◌}
use Rattle.tm_marker.specs.declared.entries.Slice.{Slice}
use Rattle.tm_image.specs.Image.{ImageView}
use Rattle.tm_irq.specs.Lists.{KernelLists}
use Rattle.tm_record.specs.StandsFor.{RecorderView, StandsFor}
use Rattle.tm_live.specs.Growth.{added, GrewBy}
use Rattle.tm_live.specs.Tape.{TapeView, tape_of}

-- a take and a latch more, as they stand in a slice
abbrev pub with_slice : KernelLists → Slice → KernelLists
with_slice k slice = record k { takes = k.takes ++ slice.mask ∷ []; latches = k.latches ++ slice.ports ∷ [] }

-- the tape of the takes and the latches that the kernel's seat gained
abbrev pub tape_between : KernelLists → KernelLists → ℕ → List Slice
tape_between before after len = tape_of (added before.takes after.takes) (added before.latches after.latches) len

-- for every image and script, a recorder that stood for the script stands for it followed by these slices
abbrev pub GoesOnBy : List Slice → RecorderView → RecorderView → Type 0
GoesOnBy slices before after = (image : ImageView) (script : List Slice) →
    StandsFor image before script → StandsFor image after (script ++ slices)

-- the seat is at its table as before, and no device came home
pub record StaysSeated (before after : KernelLists) : Type 0 where
  pub table : after.table ≡ before.table
  pub devices : after.devices ≡ before.devices
  pub home : after.home ≡ before.home

-- so many slices of one length were taken, and the tape and the recorder went on by them
pub record TookSlices (count len : ℕ) (seat seat' : KernelLists) (tape tape' : TapeView) (recorder recorder' : RecorderView) : Type 0 where
  pub seated : StaysSeated seat seat'
  pub takes : GrewBy count seat.takes seat'.takes
  pub latches : GrewBy count seat.latches seat'.latches
  pub slices : tape'.slices ≡ tape.slices ++ tape_between seat seat' len
  pub room : tape'.room ≡ tape.room - count
  pub stands : GoesOnBy (tape_between seat seat' len) recorder recorder'
  pub number : recorder'.slices ≡ recorder.slices + count
