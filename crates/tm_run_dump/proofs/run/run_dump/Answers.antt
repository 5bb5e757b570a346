use Rattle.std.proofs.Common.{◌≡◌, List, ◌++◌, ap, subst, ◌∙◌}
use Rattle.tm_log.specs.Window.{IsWindow}
use Rattle.tm_system.specs.Run.{run}
use Rattle.tm_dump.specs.Dump.{dump_bytes}
use Rattle.tm_record.specs.WindowOf.{window_of}
use Rattle.tm_record.proofs.WindowOf.{windows_are_of_runs}
use Rattle.tm_run_dump.proofs.run.run_dump.Goals as goal

pub returns : goal.returns
returns c =
    let window : c.window-window.result.now ≡ window_of c.args.image (run c.args.image c.args.slices.now) =
    c.window-window.ensures.window ∙ windows_are_of_runs c.args.image c.play.new.recorder c.args.slices.now c.tasks-tasks.ensures.sound
    (subst IsWindow c.window-window.ensures.window c.tasks-window.ensures.window) (c.play.ensures c.args.image c.in_ok-recorder.ensures) in
    c.in_ok-write_dump.ensures.ok ∙ ap (λ bytes. bytes ++ dump_bytes c.window-window.result.now) c.new-bytes.ensures.items ∙ ap dump_bytes window
