use Rattle.std.proofs.Common.{◌≡◌, IfOk, ap, ◌∙◌, subst}
use Rattle.tm_image.specs.Image.{ImageView}
use Rattle.tm_make.specs.declared.summary.Summary.{Summary}
use Rattle.tm_make.specs.Summary.{summary_text, summary_of}
use Rattle.tm_make.specs.Making.{make_text}
use Rattle.tm_make.proofs.Runs.{is_read, formed_as}
use Rattle.tm_make.proofs.making.make_on.Goals as goal

pub read_again-requires : goal.read_again-requires
read_again-requires g c =
    is_read c.args.image c.image.result.now c.args.number c.window.result.now c.requires.sound c.requires.fits c.ranges.number.fits
    (c.image.ensures ∙ c.in_ok-recorder.ensures.image) (c.window.ensures.window ∙ c.in_ok-recorder.ensures.window)

pub summarize-requires-clause-formed : goal.summarize-requires-clause-formed
summarize-requires-clause-formed g c κs within =
    formed_as c.args.image c.image-2.result.now c.in_ok-recorder.recorder.window c.in_ok-window.window
    (c.image-2.ensures ∙ c.in_ok-recorder.ensures.image) (c.in_ok-window.ensures ∙ c.window.ensures.window) c.in_ok-recorder.ensures.formed

pub returns : goal.returns
unfolding make_text
returns g c =
    let summary : c.in_ok-summary.summary ≡ summary_of c.args.image c.args.number =
    c.in_ok-summary.ensures ∙ ap (λ (image : ImageView). summary_of image c.args.number) (c.image-2.ensures ∙ c.in_ok-recorder.ensures.image) in
    subst (λ (s : Summary). IfOk c.summary_text.result (λ text. text.items ≡ summary_text s)) summary c.summary_text.ensures
