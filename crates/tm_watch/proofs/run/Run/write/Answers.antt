use Rattle.std.proofs.Common.{ℕ, List, ◌++◌, ap, ◌∙◌, subst}
use Rattle.tm_image.specs.Image.{IsImage}
use Rattle.tm_watch.specs.Dumps.{dump_of}
use Rattle.tm_watch.specs.Run.{RunView}
use Rattle.tm_watch.proofs.Dumping.{dumped}
use Rattle.tm_watch.proofs.run.Run.write.Goals as goal

pub returns : goal.returns
returns c =
    let recorder = c.self.inside.recorder in
    let bytes = dumped recorder.image recorder c.self.inside.script.log c.window-window.result.now c.window-window.ensures.window
    (subst IsImage c.image.ensures c.attest.ensures) c.tasks-tasks.ensures.window c.self.invariant in
    let whole = bytes ∙ ap (λ (run : RunView). dump_of run.image run.script) c.self.view_is in
    c.in-Ok.ensures.ok ∙ ap (λ (more : List ℕ). c.args.into.now.items ++ more) whole
