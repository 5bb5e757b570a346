-- Numbers of 32 bits in an image: what the types of its parts give.
use Rattle.std.specs.Prelude.{ℕ, ◌^◌, ◌<◌, List, All}
use Rattle.tm_kernel.specs.declared.spec.Action.{Action}
use Rattle.tm_kernel.specs.declared.spec.Action.TheVariants.{Nothing, Tick, Activate, Event}
use Rattle.tm_image.specs.Load.{Load}
use Rattle.tm_image.specs.Image.{ImageView}

-- a number of 32 bits
abbrev pub IsWord : ℕ → Type 0
IsWord n = n < 2 ^ 32

-- the events that an action sets are a mask of 32 bits
abbrev pub IsNarrow : Action → Type 0
IsNarrow Nothing = Unit {0}
IsNarrow Tick = Unit {0}
IsNarrow (Activate task) = Unit {0}
IsNarrow (Event task mask) = IsWord mask

-- each word of text and of data has 32 bits
pub record IsOfWords (load : Load) : Type 0 where
  pub text : All IsWord load.text
  pub words : All IsWord load.words

-- each word of text and of data has 32 bits, and so has each mask of events
pub record FitsText (image : ImageView) : Type 0 where
  pub loads : All IsOfWords image.loads
  pub alarms : All IsNarrow image.spec.alarms
  pub lines : All IsNarrow image.spec.lines
