-- The plain answer to `record IMAGE PLAN DUMP`.
use Rattle.std.specs.Prelude.{ℕ, List, Option, Result}
pub use Rattle.tm_run_dump.specs.RunDump.{dump_of_run}
use Rattle.tm_prog.specs.declared.status.Status.{Status}
use Rattle.tm_prog.specs.Made.{MadeView, stores}
use Rattle.tm_prog.specs.Reads.{◌>>=◌}
use Rattle.tm_prog.specs.Files.{image_in, script_in}

-- the dump of the whole run of the plan on the image, under its name
abbrev pub record_made : (List ℕ → Option (List ℕ)) → List ℕ → List ℕ → List ℕ → Option (Result MadeView Status)
record_made content image plan dump =
    image_in (content image) >>= λ image. script_in (content plan) >>= λ script. stores dump (dump_of_run image script)
