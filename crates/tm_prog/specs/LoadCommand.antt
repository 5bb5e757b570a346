-- The plain answer to `load IMAGE T ELF NEW`.
use Rattle.std.specs.Prelude.{ℕ, List, length, nat_lt, if◌then◌else◌, Option, Some, Result, Ok, Err}
use Rattle.tm_rv.specs.declared.instr.Set.{Set}
use Rattle.tm_image.specs.Image.{ImageView, words_of, replaced}
use Rattle.tm_image_text.specs.ImageText.{image_text}
use Rattle.tm_prog.specs.declared.status.Status.{Status}
use Rattle.tm_prog.specs.declared.status.Status.TheVariants.{NoTask}
use Rattle.tm_prog.specs.Made.{MadeView, stores}
use Rattle.tm_prog.specs.Reads.{◌>>=◌}
use Rattle.tm_prog.specs.Files.{image_in, loaded_in}

-- how many data words a task of the image has
abbrev pub words_count : ImageView → ℕ → ℕ
words_count image task = length (words_of image task)

-- what the task keeps, that number and the image's set of instructions, where the image has such a task
abbrev pub keeps_said : ImageView → ℕ → Result (ℕ × Set) Status
keeps_said image task = if nat_lt task (length image.loads) then Ok (words_count image task, image.set) else Err (NoTask task)

-- the text of the image, with the task loaded from the executable, under a name; the task has as many data
-- words as before, or more where the executable has more
abbrev pub load_made : (List ℕ → Option (List ℕ)) → List ℕ → ℕ → List ℕ → List ℕ → Option (Result MadeView Status)
load_made content image task executable new =
    image_in (content image) >>= λ image. Some (keeps_said image task) >>= λ keeps. loaded_in keeps (content executable) >>= λ load.
    stores new (image_text (replaced image task load))
