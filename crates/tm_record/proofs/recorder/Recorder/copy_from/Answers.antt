use Rattle.std.proofs.Common.{◌≡◌, ap, sym, subst, ◌∙◌}
use Rattle.tm_image.specs.Image.{IsImage}
use Rattle.tm_record.specs.StandsFor.{RecorderView}
use Rattle.tm_record.proofs.Copying.{fits_copy}
use Rattle.tm_record.proofs.recorder.Recorder.copy_from.Goals as goal

pub copy_from-requires-clause-words : goal.copy_from-requires-clause-words
copy_from-requires-clause-words c =
    let same : c.self.inside.image ≡ c.other.inside.image =
    ap (λ (r : RecorderView). r.image) c.self.view_is ∙ c.requires ∙ sym (ap (λ (r : RecorderView). r.image) c.other.view_is) in
    (fits_copy _ _ same c.tasks-tasks.ensures.sound (subst IsImage same c.tasks-tasks.ensures.sound) c.self.invariant c.other.invariant).words
