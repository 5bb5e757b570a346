use Rattle.std.proofs.Common.{arith, ap, sym, ◌∙◌}
use Rattle.std.specs.Prelude.{option_copied}
use Rattle.tm_points.proofs.Scanning.{reads_here, reads_later}
use Rattle.tm_points.proofs.finder.resumed_from.Goals as goal

pub returns-then-entry-task : goal.returns-then-entry-task
returns-then-entry-task c =
    sym (reads_here c.args.control.now c.loop-later.later c.in-Some.entry.now c.args.task (omega arith)
    (sym c.get.ensures.item ∙ ap option_copied c.in-Some.is) c.if-entry-task.true)
    ∙ c.loop-later.invariant

pub loop-later-preserved : goal.loop-later-preserved
loop-later-preserved c =
    reads_later c.args.control.now c.loop-later.later c.in-Some.entry.now c.args.task (omega arith)
    (sym c.get.ensures.item ∙ ap option_copied c.in-Some.is) c.if-entry-task.false
    ∙ c.loop-later.invariant
