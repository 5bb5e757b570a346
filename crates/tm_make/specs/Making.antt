-- What `make` answers.
use Rattle.std.specs.Prelude.{◌≡◌, ◌≢◌, ℕ, List, Result, Ok, Err}
use Rattle.tm_lines.specs.declared.fault.Fault.{Fault}
use Rattle.tm_lines.specs.declared.fault.Reason.{Reason}
use Rattle.tm_lines.specs.declared.fault.Reason.TheVariants as reason
use Rattle.tm_lines.specs.Steps.{◌>>=◌}
use Rattle.tm_image.specs.Image.{ImageView, image_of}
use Rattle.tm_make.specs.declared.cell.TheConstants.{CELL}
use Rattle.tm_make.specs.declared.fault.MakeFault.{MakeFault}
use Rattle.tm_make.specs.declared.fault.MakeFault.TheVariants.{Image, Memory}
use Rattle.tm_make.specs.Summary.{summary_text, summary_of}

-- the text of the image `cell`, each line ended by LF
unfoldable pub cell_text : List ℕ
cell_text = CELL.now

-- what is printed of the run that a number makes on an image
unfoldable pub make_text : ImageView → ℕ → List ℕ
make_text image number = summary_text (summary_of image number)

-- that, on the image `cell`; or the refusal of the image's text
unfoldable pub make_of : ℕ → Result (List ℕ) Fault
make_of number = do
  image ← image_of cell_text
  Ok (make_text image number)

-- the fault for an image's text that was refused, or for which there was no memory
abbrev pub make_fault : Fault → Reason → MakeFault
make_fault fault reason.Memory = Memory
make_fault fault _ = Image fault

-- the image's text is refused so; of want of memory nothing is said
abbrev pub Refuses : MakeFault → Result (List ℕ) Fault → Type 0
Refuses (Image fault) said = (said ≡ Err fault) × (fault.reason ≢ reason.Memory)
Refuses Memory said = Unit {0}
