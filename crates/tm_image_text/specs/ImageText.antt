-- The one text of an image, and when it is read as the image.
use Rattle.std.specs.Prelude.{◌≡◌, ℕ, List, [], ◌∷◌, ◌++◌, length, zip, flat_map, codes, Ok}
use Rattle.std.specs.List.{enumerate_from}
use Rattle.tm_kernel.specs.declared.spec.TaskSpec.{TaskSpec}
use Rattle.tm_marker.specs.declared.shape.Caps.{Caps}
use Rattle.tm_rv.specs.declared.instr.Set.{Set}
use Rattle.tm_rv.specs.declared.instr.Set.TheVariants.{Base, Mul}
use Rattle.tm_image.specs.Load.{Load}
use Rattle.tm_image.specs.Image.{ImageView, image_digest, image_of}
use Rattle.tm_image_text.specs.Lines.{line_of, task_line, text_line, data_line, resource_line, alarm_line, box_line, action_line, ring_line}

-- the lines of items, which are numbered from `first` on
abbrev pub numbered : {X : Type 0} → (ℕ → X → List ℕ) → ℕ → List X → List ℕ
numbered spelled first items = flat_map (λ item. spelled item.0 item.1) (enumerate_from first items)

-- a task with what it is loaded from: its line, its text, and its data words
abbrev pub task_text : ℕ → TaskSpec × Load → List ℕ
task_text number task =
    task_line number task.0 task.1.entry (length task.1.words) ++ text_line number task.1.text ++ data_line number task.1.words

-- the capacities of a recorder's buffers
abbrev pub rings_text : Caps → List ℕ
rings_text caps =
    ring_line (codes "control") caps.control ++ ring_line (codes "data") caps.logs ++
    ring_line (codes "outputs") caps.outputs ++ ring_line (codes "checks") caps.checks

-- the version of the header: 1 for RV32I alone, 2 where the texts may have RV32M too
abbrev pub version_of : Set → List ℕ
version_of Base = codes "1"
version_of Mul = codes "2"

-- tmi VERSION
abbrev pub header_line : Set → List ℕ
header_line s = line_of (codes "tmi") (version_of s ∷ [])

-- the header; the tasks; the resources, alarms, boxes and lines, each rising; the capacities
unfoldable pub image_text : ImageView → List ℕ
image_text image =
    header_line image.set ++ numbered task_text 0 (zip image.spec.tasks image.loads) ++
    numbered resource_line 0 image.spec.users ++ numbered alarm_line 0 image.spec.alarms ++
    numbered box_line 0 image.spec.boxes ++ numbered action_line 0 image.spec.lines ++ rings_text image.caps

-- the text of the image is read as the image, but for the digest, which is that of the text
abbrev pub IsReadBack : ImageView → Type 0
IsReadBack image = image_of (image_text image) ≡ Ok (record image { digest = image_digest (image_text image) })
