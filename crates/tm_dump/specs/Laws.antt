-- Laws of every dump: how long it is at most, and that reading it is the inverse of writing it.
use Rattle.std.specs.Prelude.{◌≡◌, ℕ, ◌≤◌, List, length, Ok, All}
use Rattle.tm_marker.specs.declared.shape.Shape.{Shape}
use Rattle.tm_ring.specs.Kept.{IsRing}
use Rattle.tm_check.specs.Checkpoint.{IsChecks}
use Rattle.tm_log.specs.Window.{WindowView, IsWindow, dump_bound}
use Rattle.tm_log.specs.WellFormed.{IsWellFormed}
use Rattle.tm_dump.specs.Bytes.{AreBytes}
use Rattle.tm_dump.specs.Dump.{dump_bytes}
use Rattle.tm_dump.specs.Reading.{window_in}
use Rattle.tm_dump.specs.Widths.{Fits}

-- each buffer of the window keeps what every buffer keeps
pub record AreBuffers (w : WindowView) : Type 0 where
  pub control : IsRing w.control
  pub outputs : IsRing w.outputs
  pub logs : All IsRing w.logs
  pub checks : All IsChecks w.checks

-- a dump is no longer than that of a window of its shape in which every buffer is full
abbrev pub DumpsAreBounded : Type 0
DumpsAreBounded = (w : WindowView) → IsWindow w → AreBuffers w → length (dump_bytes w) ≤ dump_bound w.shape

-- what is read is a window that a run could have left, and the bytes are its dump
abbrev pub ReadsAreDumps : Type 0
ReadsAreDumps = (shape : Shape) (bytes : List ℕ) (w : WindowView) → AreBytes bytes →
    window_in shape bytes ≡ Ok w → IsWellFormed w shape × (bytes ≡ dump_bytes w)

-- the dump of a window that a run could have left is read, and gives that window
abbrev pub DumpsAreRead : Type 0
DumpsAreRead = (shape : Shape) (w : WindowView) → IsWindow w → AreBuffers w → Fits w → IsWellFormed w shape →
    window_in shape (dump_bytes w) ≡ Ok w
