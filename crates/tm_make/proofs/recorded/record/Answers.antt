use Rattle.std.proofs.Common.{sym, subst}
use Rattle.tm_image.specs.Image.{ImageView, IsImage, shape_of}
use Rattle.tm_log.specs.Window.{IsWindow}
use Rattle.tm_log.specs.WellFormed.{IsWellFormed}
use Rattle.tm_record.proofs.WindowOf.{windows_are_of_runs}
use Rattle.tm_record.proofs.WellFormed.{recorders_are_well_formed}
use Rattle.tm_make.specs.Script.{make_script}
use Rattle.tm_make.proofs.recorded.record.Goals as goal

pub returns-clause-window : goal.returns-clause-window
returns-clause-window c =
    windows_are_of_runs c.args.image c.play.new.recorder (make_script c.args.number) c.requires
    (subst IsWindow c.window.ensures.window c.attest.ensures) (c.play.ensures c.args.image c.in_ok-recorder.ensures)

pub returns-clause-formed : goal.returns-clause-formed
returns-clause-formed c =
    let opened = (c.play.ensures c.args.image c.in_ok-recorder.ensures).opened in
    subst (λ (image : ImageView). IsWellFormed c.play.new.recorder.window (shape_of image)) opened
    (recorders_are_well_formed c.play.new.recorder (subst IsImage (sym opened) c.requires)
    (subst IsWindow c.window.ensures.window c.attest.ensures) c.window.ensures.real)
