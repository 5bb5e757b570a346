use Rattle.std.proofs.Common.{inl, inr, arith, ◌∙◌, length-set}
use Rattle.std.proofs.lemmas.Bool.{cases_eq}
use Rattle.std.proofs.lemmas.List.{get_or-set_same, get_or-set_other}
use Rattle.tm_services.proofs.ceilings.ceilings_of.Goals as goal

pub loop-res-preserved : goal.loop-res-preserved
loop-res-preserved c = record {
  number = length-set c.loop-res.ceilings c.loop-res.res c.ceiling_of.result ∙ c.loop-res.invariant.number;
  below = λ k below. elim (cases_eq k c.loop-res.res) [
    | inl e ↦
        rw (e, get_or-set_same c.loop-res.ceilings c.loop-res.res c.ceiling_of.result 0 (omega (arith, c.loop-res.invariant.number)))
        c.ceiling_of.ensures
    | inr ne ↦
        rw (get_or-set_other c.loop-res.ceilings c.loop-res.res k c.ceiling_of.result 0 ne)
        (c.loop-res.invariant.below k (omega arith))
  ];
}
