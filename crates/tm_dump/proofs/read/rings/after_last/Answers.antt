use Rattle.std.proofs.Common.{◌∙◌, sym, arith, ◌-◌}
use Rattle.std.proofs.lemmas.Option.{slice_get_within}
use Rattle.tm_dump.proofs.Lasts.{runs_after, ended_after}
use Rattle.tm_dump.proofs.read.rings.after_last.Goals as goal

pub returns-clause-running : goal.returns-clause-running
returns-clause-running c =
    sym (runs_after c.args.control.now.items (c.len.result - 1) c.kept-last.result c.kept-last.ensures
    (omega (arith, c.len.ensures.number, slice_get_within c.args.control.now.items (c.len.result - 1) c.kept-last.result c.kept-last.ensures)))

pub returns-clause-ended : goal.returns-clause-ended
returns-clause-ended c =
    c.ended_by.ensures ∙ sym (ended_after c.args.control.now.items (c.len.result - 1) c.kept-last.result c.kept-last.ensures
    (omega (arith, c.len.ensures.number, slice_get_within c.args.control.now.items (c.len.result - 1) c.kept-last.result c.kept-last.ensures)))
