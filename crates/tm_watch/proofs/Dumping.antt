-- The dump of a recorder's window is that of the run of its script.
use Rattle.std.proofs.Common.{◌≡◌, List, ap, ◌∙◌, subst}
use Rattle.tm_marker.specs.declared.entries.Slice.{Slice}
use Rattle.tm_image.specs.Image.{ImageView, IsImage}
use Rattle.tm_log.specs.Window.{WindowView, IsWindow}
use Rattle.tm_record.specs.StandsFor.{RecorderView, StandsFor}
use Rattle.tm_record.proofs.WindowOf.{windows_are_of_runs}
use Rattle.tm_dump.specs.Dump.{dump_bytes}
use Rattle.tm_watch.specs.Dumps.{dump_of}

pub dumped : (image : ImageView) (recorder : RecorderView) (script : List Slice) (w : WindowView) → w ≡ recorder.window → IsImage image → IsWindow w →
    StandsFor image recorder script → dump_bytes w ≡ dump_of image script
dumped image recorder script w is sound kept stands = ap dump_bytes (is ∙ windows_are_of_runs image recorder script sound (subst IsWindow is kept) stands)
