use Rattle.std.proofs.Common.{◌≡◌, ℕ, List, Ok, Err, sym, ap, ◌∙◌, subst}
use Rattle.tm_lines.specs.Steps.{UnlessMemory}
use Rattle.tm_image.specs.Image.{image_of}
use Rattle.tm_widths.proofs.Images.{images_fit}
use Rattle.tm_make.specs.Making.{cell_text, make_of, make_fault}
use Rattle.tm_make.proofs.Refusals.{made_is, refuses, on_fault}
use Rattle.tm_make.proofs.making.make.Goals as goal

pub returns-in_err-image-clause-refused : goal.returns-in_err-image-clause-refused
unfolding cell_text
returns-in_err-image-clause-refused g c =
    let fault = c.in_err-image.field-0.0 in
    let said : UnlessMemory fault.reason (image_of cell_text ≡ Err fault) =
    subst (λ (bytes : List ℕ). UnlessMemory fault.reason (image_of bytes ≡ Err fault)) c.as_bytes.ensures.value c.in_err-image.ensures.read in
    on_fault c.from_residual.result (make_fault fault fault.reason) (make_of c.args.number) c.from_residual.ensures.1 (refuses fault c.args.number said)

pub make_on-requires-clause-fits : goal.make_on-requires-clause-fits
make_on-requires-clause-fits g c κs within = images_fit c.as_bytes.result.now c.in_ok-image.image c.in_ok-image.ensures.read

pub returns-clause-made : goal.returns-clause-made
unfolding cell_text
returns-clause-made g c =
    let read : image_of cell_text ≡ Ok c.in_ok-image.image =
    subst (λ (bytes : List ℕ). image_of bytes ≡ Ok c.in_ok-image.image) c.as_bytes.ensures.value c.in_ok-image.ensures.read in
    made_is c.in_ok-image.image c.args.number read ∙ ap (λ (text : List ℕ). Ok text) (sym c.in_ok-text.ensures)
