-- What a drive adds to the lists of a bench.
use Rattle.std.specs.Prelude.{ℕ, List, slice_index_or}
use Rattle.tm_marker.specs.declared.entries.Slice.{Slice}
use Rattle.tm_irq.specs.declared.views.Deeds.{Deeds}
use Rattle.tm_irq.specs.Views.{no_deeds}
use Rattle.tm_irq.specs.Bench.{BenchLists}
use Rattle.tm_live.specs.Growth.{added}
use Rattle.tm_live.specs.Tape.{tape_of}

-- what the device of a number did
abbrev pub deeds_at : BenchLists → ℕ → Deeds
deeds_at lists device = slice_index_or lists.deeds device (no_deeds device)

-- the tape of the takes and the latches that the bench gained
abbrev pub tape_since : BenchLists → BenchLists → ℕ → List Slice
tape_since before after len = tape_of (added before.takes after.takes) (added before.latches after.latches) len
