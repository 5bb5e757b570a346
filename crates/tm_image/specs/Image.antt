-- What an image is, and which image a text is.
use Rattle.std.specs.Prelude.{◌≡◌, ℕ, ◌*◌, ◌%◌, ◌<◌, ◌≤◌, List, [], length, map, slice_get, slice_set, codes, unwrap_or, All, Result, Ok, Err}
use Rattle.sha2.specs.Sha256.{sha256}
use Rattle.tm_kernel.specs.declared.spec.KernelSpec.{KernelSpec}
use Rattle.tm_kernel.specs.Spec.{IsKernelSpec}
use Rattle.tm_marker.specs.declared.shape.Caps.{Caps}
use Rattle.tm_marker.specs.declared.shape.Shape.{Shape}
use Rattle.tm_marker.specs.declared.entries.TheConstants.{LINES}
use Rattle.tm_marker.specs.declared.shape.TheConstants.{MOST_WORDS}
use Rattle.tm_marker.specs.Shape.{IsCaps}
use Rattle.tm_lines.specs.declared.fault.Fault.{Fault}
use Rattle.tm_lines.specs.Steps.{◌>>=◌, on_line}
use Rattle.tm_rv.specs.declared.instr.Set.{Set}
use Rattle.tm_rv.specs.declared.instr.Set.TheVariants as set
use Rattle.tm_rv.specs.Code.{Text}
use Rattle.tm_lines.specs.Lines.{pieces, header, from_header, lines_on}
use Rattle.tm_image.specs.Draft.{Draft, empty_draft, caps_of, image_line, whole}
pub use Rattle.tm_image.specs.Load.{Load}

-- the digest of the file, the set of instructions, what the kernel is made of, what each task is loaded
-- from, and the capacities of a recorder's buffers
pub record ImageView : Type 0 where
  pub digest : List ℕ
  pub set : Set
  pub spec : KernelSpec
  pub loads : List Load
  pub caps : Caps

-- what the task is loaded from; nothing, where there is no such task
abbrev pub load_of : ImageView → ℕ → Load
load_of image task = unwrap_or (slice_get image.loads task) (record { entry = 0; text = []; set = image.set; words = [] })

-- the address of the task's first instruction
abbrev pub entry_of : ImageView → ℕ → ℕ
entry_of image task = (load_of image task).entry

-- the task's text
abbrev pub text_of : ImageView → ℕ → Text
text_of image task = record { words = (load_of image task).text; set = (load_of image task).set }

-- the task's data words at boot
abbrev pub words_of : ImageView → ℕ → List ℕ
words_of image task = (load_of image task).words

-- the image, one task of which is loaded from something else; its digest stays
abbrev pub replaced : ImageView → ℕ → Load → ImageView
replaced image task load = record image { loads = slice_set image.loads task load }

-- what the image says of the buffers of its runs
abbrev pub shape_of : ImageView → Shape
shape_of image = record {
  image = image.digest;
  caps = image.caps;
  words = map (λ load. length load.words) image.loads;
}

-- a word of text and of data, and no more than a task may have; the entry is the address of a word of the text
pub record IsLoad (load : Load) : Type 0 where
  pub some_text : 0 < length load.text
  pub short_text : length load.text ≤ MOST_WORDS
  pub some_words : 0 < length load.words
  pub few_words : length load.words ≤ MOST_WORDS
  pub aligned : load.entry % 4 ≡ 0
  pub inside : load.entry < 4 * length load.text

-- a kernel can be made of the specification, each of its tasks can be loaded, with the image's set of
-- instructions, and each line has an action; the digest has 32 bytes, and the capacities are within their limits
pub record IsImage (image : ImageView) : Type 0 where
  pub digest : length image.digest ≡ 32
  pub spec : IsKernelSpec image.spec
  pub lines : length image.spec.lines ≡ LINES
  pub loads : length image.loads ≡ length image.spec.tasks
  pub each : All IsLoad image.loads
  pub sets : All (λ load. load.set ≡ image.set) image.loads
  pub caps : IsCaps image.caps

-- what a draft and a shape make together
abbrev pub shaped : Draft → Shape → ImageView
shaped d shape = record { digest = shape.image; set = d.set; spec = d.spec; loads = d.loads; caps = shape.caps }

-- the digest of an image: SHA-256 of the file's bytes
unfoldable pub image_digest : List ℕ → List ℕ
image_digest bytes = sha256 bytes

-- the lines below a header, and the number of the first of them
abbrev pub Below : Type 0
Below = ℕ × List (List ℕ)

-- what stands below the header of version 1, which has RV32I alone, or of version 2, which has RV32M too;
-- where neither is there, each is refused for one reason
abbrev pub by_version : Result Below Fault → Result Below Fault → Result (Set × Below) Fault
by_version (Ok body) second = Ok (set.Base, body)
by_version (Err fault) second = second >>= (λ body. Ok (set.Mul, body))

-- what stands below the header of an image, and its set
abbrev pub below : List (List ℕ) → Result (Set × Below) Fault
below lines = by_version
    (from_header (header (codes "tmi") (codes "1")) 1 lines)
    (from_header (header (codes "tmi") (codes "2")) 1 lines)

-- what the lines of a text make, or the first fault: below the header, each line goes on from those before it,
-- and the end of the file is a last line
unfoldable pub draft_of : List ℕ → Result Draft Fault
draft_of bytes = do
  body ← below (pieces bytes)
  last ← lines_on image_line body.1.0 (empty_draft body.0) body.1.1
  on_line last.0 (whole last.1)

-- the image of a draft, with the digest of its file
abbrev pub image_with : List ℕ → Draft → ImageView
image_with digest d = record { digest = digest; set = d.set; spec = d.spec; loads = d.loads; caps = caps_of d.rings }

-- the image of a text, or the first fault
unfoldable pub image_of : List ℕ → Result ImageView Fault
image_of bytes = do
  d ← draft_of bytes
  Ok (image_with (image_digest bytes) d)
