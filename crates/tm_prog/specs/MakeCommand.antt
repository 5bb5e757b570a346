-- The plain answer to `make N`. No file is named.
use Rattle.std.specs.Prelude.{ℕ, List, Option, Some, Result, Ok, Err}
use Rattle.tm_lines.specs.declared.fault.Fault.{Fault}
use Rattle.tm_make.specs.Making.{make_of}
use Rattle.tm_prog.specs.declared.status.Status.{Status}
use Rattle.tm_prog.specs.declared.status.Status.TheVariants.{Image}
use Rattle.tm_prog.specs.Made.{MadeView, text_alone}

-- the summary as a text, or the refusal of the image that the program carries
abbrev pub summary_said : Result (List ℕ) Fault → Result MadeView Status
summary_said (Ok text) = Ok (text_alone text)
summary_said (Err fault) = Err (Image fault)

-- the summary of the generated run of a number
abbrev pub make_said : ℕ → Result MadeView Status
make_said number = summary_said (make_of number)

abbrev pub make_made : ℕ → Option (Result MadeView Status)
make_made number = Some (make_said number)
