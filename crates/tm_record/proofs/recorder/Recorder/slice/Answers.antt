use Rattle.std.proofs.Common.{subst, sym, ap, arith, rules}
use Rattle.tm_record.specs.StandsFor.{RecorderView, StandsFor}
use Rattle.tm_record.proofs.Scripts.{real_young, real_more, stands_more}
use Rattle.tm_record.proofs.recorder.Recorder.slice.Goals as goal

pub slice-requires-clause-young : goal.slice-requires-clause-young
slice-requires-clause-young c = real_young _ c.tasks-tasks.ensures.sound c.self.invariant (omega (arith, c.requires.few, ap (λ (r : RecorderView). r.slices) c.self.view_is))

pub invariant_of-self : goal.invariant_of-self
invariant_of-self c =
    real_more _ _ _ _ (search rules) (omega (arith, c.requires.few, ap (λ (r : RecorderView). r.slices) c.self.view_is)) c.slice.ensures.recorded c.self.invariant

pub returns-clause-stands : goal.returns-clause-stands
returns-clause-stands c = λ image script stands.
    stands_more image _ _ _ script _ c.slice.ensures.recorded (subst (λ (r : RecorderView). StandsFor image r script) (sym c.self.view_is) stands)
