-- The dump of a script.
use Rattle.std.specs.Prelude.{ℕ, List}
use Rattle.tm_marker.specs.declared.entries.Slice.{Slice}
use Rattle.tm_image.specs.Image.{ImageView}
use Rattle.tm_system.specs.Run.{run}
use Rattle.tm_record.specs.WindowOf.{window_of}
use Rattle.tm_dump.specs.Dump.{dump_bytes}

-- the dump of the window of the script's run
abbrev pub dump_of : ImageView → List Slice → List ℕ
dump_of image script = dump_bytes (window_of image (run image script))
