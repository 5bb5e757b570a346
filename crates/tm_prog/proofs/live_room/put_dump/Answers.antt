use Rattle.std.proofs.Common.{◌≡◌, ◌++◌, ap, subst, ◌∙◌}
use Rattle.tm_image.specs.Image.{IsImage}
use Rattle.tm_log.specs.Window.{IsWindow}
use Rattle.tm_system.specs.Run.{run}
use Rattle.tm_dump.specs.Dump.{dump_bytes}
use Rattle.tm_record.specs.WindowOf.{window_of}
use Rattle.tm_record.proofs.WindowOf.{windows_are_of_runs}
use Rattle.tm_prog.proofs.live_room.put_dump.Goals as goal

pub returns : goal.returns
returns c = λ image script stands.
    let is : IsImage image = subst IsImage (c.image-image.ensures ∙ stands.opened) c.attest.ensures in
    let window : c.window-window.result.now ≡ window_of image (run image script) =
    c.window-window.ensures.window ∙ windows_are_of_runs image c.args.recorder.now script is
    (subst IsWindow c.window-window.ensures.window c.attest-2.ensures) stands in
    c.in-Ok.ensures.ok ∙ ap (λ bytes. bytes ++ dump_bytes c.window-window.result.now) c.requires.empty ∙ ap dump_bytes window
