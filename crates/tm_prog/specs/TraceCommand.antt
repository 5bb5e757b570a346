-- The plain answer to `trace IMAGE PLAN`.
use Rattle.std.specs.Prelude.{ℕ, List, Option, Result}
use Rattle.tm_system.specs.Telling.{text_of_run}
use Rattle.tm_prog.specs.declared.status.Status.{Status}
use Rattle.tm_prog.specs.Made.{MadeView, prints}
use Rattle.tm_prog.specs.Reads.{◌>>=◌}
use Rattle.tm_prog.specs.Files.{image_in, script_in}

-- the text of the whole run of the plan on the image, from boot
abbrev pub trace_made : (List ℕ → Option (List ℕ)) → List ℕ → List ℕ → Option (Result MadeView Status)
trace_made content image plan =
    image_in (content image) >>= λ image. script_in (content plan) >>= λ script. prints (text_of_run image script 0)
