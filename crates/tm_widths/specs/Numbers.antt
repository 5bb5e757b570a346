-- Numbers of 32 bits in an image, a script, and the state of a run: what their types give.
use Rattle.std.specs.Prelude.{◌≡◌, List, length, All}
use Rattle.tm_marker.specs.declared.body.Body.{Body}
use Rattle.tm_marker.specs.declared.entries.Slice.{Slice}
use Rattle.tm_kernel.specs.declared.spec.Action.{Action}
use Rattle.tm_kernel.specs.declared.spec.Action.TheVariants.{Nothing, Tick, Activate, Event}
use Rattle.tm_kernel.specs.Mailboxes.{Message}
use Rattle.tm_kernel.specs.State.{KernelState}
use Rattle.tm_image.specs.Load.{Load}
use Rattle.tm_image.specs.Image.{ImageView}
use Rattle.tm_dump.specs.Widths.{IsWord}

-- the events that an action sets are a mask of 32 bits
abbrev pub FitsAction : Action → Type 0
FitsAction Nothing = Unit {0}
FitsAction Tick = Unit {0}
FitsAction (Activate task) = Unit {0}
FitsAction (Event task mask) = IsWord mask

-- each data word of an image, and each mask of events, is one of 32 bits
pub record FitsImage (image : ImageView) : Type 0 where
  pub lines : All FitsAction image.spec.lines
  pub alarms : All FitsAction image.spec.alarms
  pub words : All (λ (load : Load). All IsWord load.words) image.loads

-- the port words of a slice are of 32 bits
abbrev pub FitsSlice : Slice → Type 0
FitsSlice s = All IsWord s.ports

-- a body's registers and data words are of 32 bits
pub record FitsBody (b : Body) : Type 0 where
  pub regs : All IsWord b.regs
  pub words : All IsWord b.words

-- a message is four words of 32 bits
pub record FitsMessage (m : Message) : Type 0 where
  pub four : length m ≡ 4
  pub words : All IsWord m

-- a kernel's events, messages and latched words are of 32 bits, and the masks of its actions
pub record FitsKernel (k : KernelState) : Type 0 where
  pub events : All IsWord k.events
  pub boxes : All (λ (messages : List Message). All FitsMessage messages) k.boxes
  pub ports : All IsWord k.ports
  pub lines : All FitsAction k.spec.lines
  pub alarms : All FitsAction k.spec.alarms
