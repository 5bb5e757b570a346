use Rattle.std.proofs.Common.{ap, ◌∙◌, ◌+◌, min}
use Rattle.tm_check.proofs.Shifts.{pushed_view, holds_pushed}
use Rattle.tm_check.proofs.checks.Checks.push.Goals as goal

pub returns-clause-pushed : goal.returns-clause-pushed
returns-clause-pushed c =
    rw (← c.self.view_is) (pushed_view _ _ _ _ _ _ _ c.self.invariant c.refill.ensures
    (c.min-self-inside.ensures ∙ ap (min (c.self.inside.len + 1)) (c.capacity.ensures.capacity ∙ ap (λ b. b.capacity) c.refill.ensures)))

pub returns-clause-holds : goal.returns-clause-holds
returns-clause-holds c = holds_pushed _ _ _ (returns-clause-pushed c)
