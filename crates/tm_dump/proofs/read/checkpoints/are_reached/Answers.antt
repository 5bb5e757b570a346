use Rattle.std.proofs.Common.{◌≡◌, ◌∙◌, sym, rules, true, false}
use Rattle.tm_dump.specs.Reading.{is_reached}
use Rattle.tm_dump.proofs.Lasts.{all_next, all_fails}
use Rattle.tm_dump.proofs.read.checkpoints.are_reached.Goals as goal

pub returns-then-not-is_reached : goal.returns-then-not-is_reached
returns-then-not-is_reached c =
    let fails : c.is_reached.result ≡ false = search rules in
    sym (all_fails (is_reached c.args.task c.args.total) c.args.control.now.items c.loop-index.index c.kept.result _
    c.loop-index.invariant c.kept.ensures (sym c.is_reached.ensures ∙ fails))

pub loop-index-preserved : goal.loop-index-preserved
loop-index-preserved c =
    let passes : c.is_reached.result ≡ true = search rules in
    all_next (is_reached c.args.task c.args.total) c.args.control.now.items c.loop-index.index c.kept.result _
    c.loop-index.invariant c.kept.ensures (sym c.is_reached.ensures ∙ passes)
