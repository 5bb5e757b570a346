-- The image of a text has numbers of 32 bits.
use Rattle.std.proofs.Common.{◌≡◌, Ok, subst}
use Rattle.std.proofs.lemmas.List.Elements.{All-weaker}
use Rattle.tm_kernel.specs.declared.spec.Action.{Action}
use Rattle.tm_kernel.specs.declared.spec.Action.TheVariants.{Nothing, Tick, Activate, Event}
use Rattle.tm_image.specs.Image.{image_digest, draft_of, image_with, image_of}
use Rattle.tm_lines.proofs.Steps.{bound}
use Rattle.tm_image.proofs.Fits as image_numbers
use Rattle.tm_widths.specs.Numbers.{FitsAction, FitsImage}
use Rattle.tm_widths.specs.Legible.{ImagesFit}

action_fits : (a : Action) → image_numbers.FitsAction a → FitsAction a
action_fits Nothing fits = tt
action_fits Tick fits = tt
action_fits (Activate task) fits = tt
action_fits (Event task mask) fits = fits

pub images_fit : ImagesFit
unfolding image_of
images_fit bytes image e =
    let d = bound (draft_of bytes) (λ d. Ok (image_with (image_digest bytes) d)) image e in
    let so : image_numbers.FitsSoFar d.0 = image_numbers.draft_fits bytes d.0 d.1.0 in
    let same : image_with (image_digest bytes) d.0 ≡ image = cc d.1.1 in
    subst FitsImage same (record {
      lines = All-weaker image_numbers.FitsAction FitsAction action_fits d.0.spec.lines so.lines;
      alarms = All-weaker image_numbers.FitsAction FitsAction action_fits d.0.spec.alarms so.alarms;
      words = so.loads;
    })
