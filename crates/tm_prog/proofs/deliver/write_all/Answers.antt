use Rattle.std.proofs.Common.{rules, arith}
use Rattle.tm_prog.proofs.Delivering.{took_more, rest_there}
use Rattle.tm_prog.proofs.deliver.write_all.Goals as goal

pub loop-done-preserved : goal.loop-done-preserved
loop-done-preserved g c = record {
  within = search rules;
  took = took_more _ _ _ c.args.text.now c.loop-done.done c.in_ok-done.field-0 c.loop-done.invariant.took c.in_ok-done.ensures.taken;
  silent = λ none. let some = c.in_ok-done.ensures.goes_on (rest_there c.args.text.now c.loop-done.done c.loop-done-test.true) in absurd (omega (arith, some));
}
