-- What the files of a command say.
use Rattle.std.specs.Prelude.{ℕ, List, Option, Result, Ok, Err}
use Rattle.tm_log.specs.Window.{WindowView}
use Rattle.tm_dump.specs.declared.fault.DumpFault.{DumpFault}
use Rattle.tm_dump.specs.declared.fault.DumpFault.TheVariants as dump
use Rattle.tm_dump.specs.Reading.{window_in}
use Rattle.tm_marker.specs.declared.entries.Slice.{Slice}
use Rattle.tm_lines.specs.declared.fault.Fault.{Fault}
use Rattle.tm_lines.specs.declared.fault.Reason.{Reason}
use Rattle.tm_lines.specs.declared.fault.Reason.TheVariants as reason
use Rattle.tm_image.specs.Image.{ImageView, Load, image_of, shape_of}
use Rattle.tm_image.specs.Plan.{plan_of}
use Rattle.tm_elf.specs.declared.fault.ElfFault.{ElfFault}
use Rattle.tm_elf.specs.declared.fault.ElfFault.TheVariants as elf
use Rattle.tm_rv.specs.declared.instr.Set.{Set}
use Rattle.tm_elf.specs.Elf.{elf_of}
use Rattle.tm_plant.specs.declared.plant.Act.{Act}
use Rattle.tm_plant.specs.Plant.{plant_of}
use Rattle.tm_prog.specs.declared.status.Status.{Status}
use Rattle.tm_prog.specs.declared.status.Status.TheVariants.{Image, Plan, Dump, Elf, Memory}
use Rattle.tm_prog.specs.declared.limits.TheConstants.{IMAGE_LIMIT, PLAN_LIMIT, DUMP_LIMIT, ELF_LIMIT}
use Rattle.tm_prog.specs.Reads.{file_in}

-- the value of a text, or its refusal as a status
abbrev pub said : {A E : Type 0} → (E → Status) → Result A E → Result A Status
said refused (Ok value) = Ok value
said refused (Err fault) = Err (refused fault)

-- the image that bytes spell, or the refusal of the image's text
abbrev pub image_said : List ℕ → Result ImageView Status
image_said bytes = said Image (image_of bytes)

-- the script that bytes spell, or the refusal of the plan's text
abbrev pub script_said : List ℕ → Result (List Slice) Status
script_said bytes = said Plan (plan_of bytes)

-- what each device does by the plant that bytes spell, or the refusal of the plant's text
abbrev pub plant_said : List ℕ → Result (List (List Act)) Status
plant_said bytes = said Plan (plant_of bytes)

-- the window of the image that bytes are the dump of, or the refusal of the dump
abbrev pub window_said : ImageView → List ℕ → Result WindowView Status
window_said image bytes = said Dump (window_in (shape_of image) bytes)

-- what a task is loaded from by the executable that bytes are, with at least so many data words and this set
-- of instructions, or the refusal of the executable
abbrev pub loaded_said : ℕ × Set → List ℕ → Result Load Status
loaded_said keeps bytes = said Elf (elf_of bytes keeps.0 keeps.1)

-- the image in the first file
abbrev pub image_in : Option (List ℕ) → Option (Result ImageView Status)
image_in file = file_in IMAGE_LIMIT 1 image_said file

-- the script in the second file
abbrev pub script_in : Option (List ℕ) → Option (Result (List Slice) Status)
script_in file = file_in PLAN_LIMIT 2 script_said file

-- the plant in the second file
abbrev pub plant_in : Option (List ℕ) → Option (Result (List (List Act)) Status)
plant_in file = file_in PLAN_LIMIT 2 plant_said file

-- the window of the image in the second file
abbrev pub window_file_in : ImageView → Option (List ℕ) → Option (Result WindowView Status)
window_file_in image file = file_in DUMP_LIMIT 2 (window_said image) file

-- what a task is loaded from by the executable in the second file
abbrev pub loaded_in : ℕ × Set → Option (List ℕ) → Option (Result Load Status)
loaded_in keeps file = file_in ELF_LIMIT 2 (loaded_said keeps) file

-- the status for an image's text that was refused, or for which there was no memory
abbrev pub image_status : Fault → Reason → Status
image_status fault reason.Memory = Memory
image_status fault _ = Image fault

-- the same for the text of a plan or a plant
abbrev pub plan_status : Fault → Reason → Status
plan_status fault reason.Memory = Memory
plan_status fault _ = Plan fault

-- the same for a dump
abbrev pub dump_status : DumpFault → Status
dump_status dump.Memory = Memory
dump_status fault = Dump fault

-- the same for an executable
abbrev pub elf_status : ElfFault → Status
elf_status elf.Memory = Memory
elf_status fault = Elf fault
