use Rattle.std.proofs.Common.{◌≡◌, ◌++◌, [], length, ap, sym, subst, ◌∙◌, arith}
use Rattle.tm_log.specs.Window.{dump_bound}
use Rattle.tm_live.specs.Tape.{TapeView}
use Rattle.tm_irq.specs.Bench.{bench_lists}
use Rattle.tm_live.specs.Drive.{tape_since}
use Rattle.tm_prog.specs.LiveRoom.{HasRooms}
use Rattle.tm_prog.proofs.commands.live.run_live.Goals as goal

-- the recorder has the shape that it had, and the tape the slices that there is room for
pub made_from-requires-clause-room : goal.made_from-requires-clause-room
made_from-requires-clause-room g c =
    let begun = c.requires.run.1 in
    let old = c.args.run in
    let new = c.run_beside-audit.new in
    let ran = c.run_beside-audit.ensures in
    let tape = tape_since (bench_lists c.args.bench.now) (bench_lists new.bench) c.args.asked.now.len in
    let stands = ran.stands c.requires.run.0 [] begun.recorder in
    let shape : new.recorder.window.shape ≡ old.recorder.window.shape = stands.window.shape ∙ sym begun.recorder.window.shape in
    let taped : length new.tape.slices ≡ length tape = ap length (ran.tape ∙ ap (λ (t : TapeView). t.slices ++ tape) begun.tape) in
    let size : length new.tape.slices ≡ c.args.asked.now.slices = omega (arith, taped, stands.slices, ran.slices, begun.recorder.slices) in
    subst (λ bound. HasRooms bound (length new.tape.slices) old.room) (sym (ap dump_bound shape))
    (subst (λ slices. HasRooms (dump_bound old.recorder.window.shape) slices old.room) (sym size) begun.rooms)
