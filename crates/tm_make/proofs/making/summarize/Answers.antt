use Rattle.std.proofs.Common.{◌≡◌, ℕ, List, slice_get, length, ap, ◌∙◌}
use Rattle.tm_marker.specs.declared.entries.Switch.{Switch}
use Rattle.tm_ring.specs.Kept.{Kept}
use Rattle.tm_make.specs.Script.{make_script}
use Rattle.tm_make.proofs.Runs.{least_found, least_fits, summary_is}
use Rattle.tm_make.proofs.making.summarize.Goals as goal

pub length_from-requires-clause-accepted : goal.length_from-requires-clause-accepted
length_from-requires-clause-accepted g c κs within =
    least_found c.args.window.now c.copied-least.result
    (c.copied-least.ensures ∙ c.first.ensures.value ∙ ap (λ (points : List ℕ). slice_get points 0) (c.as_slice.ensures ∙ c.in_ok-points.ensures))

pub length_from-requires-clause-fits : goal.length_from-requires-clause-fits
length_from-requires-clause-fits g c κs within =
    least_fits c.args.image.now (make_script c.args.number) c.args.window.now c.copied-least.result c.requires.sound c.requires.of_run
    (least_found c.args.window.now c.copied-least.result
    (c.copied-least.ensures ∙ c.first.ensures.value ∙ ap (λ (points : List ℕ). slice_get points 0) (c.as_slice.ensures ∙ c.in_ok-points.ensures)))

pub returns : goal.returns
returns g c =
    summary_is c.args.image.now c.args.number c.total.result (length c.as_slice-2.result.now) c.in_ok-length_from.field-0
    c.args.window.now c.copied-least.result c.in_ok-points.points c.requires.sound c.requires.of_run
    (c.total.ensures.total ∙ ap (λ (ring : Kept Switch). ring.total) c.control.ensures)
    c.in_ok-points.ensures
    (ap length c.as_slice-2.ensures)
    (c.copied-least.ensures ∙ c.first.ensures.value ∙ ap (λ (points : List ℕ). slice_get points 0) (c.as_slice.ensures ∙ c.in_ok-points.ensures))
    c.in_ok-length_from.ensures
