use Rattle.std.proofs.Common.{List, All, take, subst, arith}
use Rattle.std.proofs.lemmas.List.{take_all}
use Rattle.std.proofs.lemmas.List.Elements.{All-more}
use Rattle.tm_kernel.specs.declared.spec.Action.{Action}
use Rattle.tm_kernel.specs.declared.spec.Action.TheVariants.{Nothing}
use Rattle.tm_image_text.specs.Lines.{action_line}
use Rattle.tm_image_text.specs.Numbers.{IsNarrow}
use Rattle.tm_image_text.proofs.Written.{numbered_more}
use Rattle.tm_image_text.proofs.text.put_actions.Goals as goal

pub loop-number-preserved : goal.loop-number-preserved
loop-number-preserved c =
    let put = c.in_ok-put_action_line.ensures in
    let so = c.loop-number.invariant in
    record {
      written = numbered_more action_line c.args.lines.now c.loop-number.number Nothing _ _ _ c.loop-number-test.true put.ok so.written;
      keeps = λ start begins. put.keeps start (so.keeps start begins);
      narrow = All-more IsNarrow c.args.lines.now c.loop-number.number Nothing c.loop-number-test.true so.narrow put.narrow;
    }

pub returns-clause-narrow : goal.returns-clause-narrow
returns-clause-narrow c =
    subst (λ (actions : List Action). All IsNarrow actions) (take_all c.loop-number.number c.args.lines.now (omega arith)) c.loop-number.invariant.narrow
