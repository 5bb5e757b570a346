-- The plain answer to `live IMAGE PLANT DUMP --slices N --len L [--tape NAME]`: the run on the slices that the
-- bench gave.
use Rattle.std.specs.Prelude.{ℕ, List, [], ◌∷◌, Option, Some, None, Result, Ok}
use Rattle.tm_marker.specs.declared.entries.Slice.{Slice}
use Rattle.tm_image.specs.Image.{ImageView}
use Rattle.tm_irq.specs.declared.audit.Audit.{Audit}
use Rattle.tm_plant.specs.Tape.{tape_text}
use Rattle.tm_live.specs.Tape.{tape_of}
use Rattle.tm_audit.specs.Text.{audit_text}
use Rattle.tm_prog.specs.declared.status.Status.{Status}
use Rattle.tm_prog.specs.Gained.{Gained}
use Rattle.tm_prog.specs.Made.{PutView, MadeView}
use Rattle.tm_prog.specs.Reads.{◌>>=◌}
use Rattle.tm_prog.specs.Files.{image_in, plant_in}
use Rattle.tm_prog.specs.RecordCommand.{dump_of_run}

-- the text of the tape under its name, where there is a name for it
abbrev pub tape_put : Option (List ℕ) → List Slice → List PutView
tape_put None tape = []
tape_put (Some name) tape = record { name = name; bytes = tape_text tape } ∷ []

-- the dump of the run on a tape, then the tape, and the audit of the closing
unfoldable pub live_of : ImageView → List ℕ → ℕ → Option (List ℕ) → List Slice → Audit → MadeView
live_of image dump slices tape_name tape audit = record {
  puts = record { name = dump; bytes = dump_of_run image tape } ∷ tape_put tape_name tape;
  text = audit_text slices audit;
}

-- that of the slices of one length, with the lines of the takes and the ports of the latches that came
abbrev pub live_made : (List ℕ → Option (List ℕ)) → List ℕ → List ℕ → List ℕ → ℕ → ℕ → Option (List ℕ) → Gained → Option (Result MadeView Status)
live_made content image plant dump slices len tape gained =
    image_in (content image) >>= λ image. plant_in (content plant) >>= λ plant.
    Some (Ok (live_of image dump slices tape (tape_of gained.takes gained.latches len) gained.audit))
