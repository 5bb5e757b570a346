use Rattle.std.proofs.Common.{arith, ap, ◌∙◌, subst, ◌<◌, length}
use Rattle.tm_log.specs.Window.{WindowView, checks_of}
use Rattle.tm_log.proofs.Keeping.{keeps_window, puts_check, holds_more, checks_others}
use Rattle.tm_log.proofs.window.Window.push_check.Goals as goal

-- the task has checkpoints
inside_below : (c : goal.After-self-1) → c.args.task < length c.self.inside.checks.items
inside_below c = omega (arith, c.requires.task, c.self.invariant.checks, ap (λ (w : WindowView). length w.shape.words) c.self.view_is)

below : (c : goal.After-self-1) → c.args.task < length c.args.self.now.checks
below c = subst (λ (w : WindowView). c.args.task < length w.checks) c.self.view_is (inside_below c)

pub invariant_of-self : goal.invariant_of-self
invariant_of-self c =
    keeps_window _ _ _ _ c.self.invariant (rw c.from.ensures (inside_below c)) c.index_mut-checks.ensures.value (ap (λ k. k.cap) c.push.ensures.pushed) (ap (λ k. k.words) c.push.ensures.pushed)

pub returns-clause-with : goal.returns-clause-with
returns-clause-with c =
    rw (← c.self.view_is) (puts_check _ _ _ _ _ _ c.from.ensures (inside_below c) c.index_mut-checks.ensures.value c.push.ensures.pushed)

pub returns-clause-holds : goal.returns-clause-holds
returns-clause-holds c = holds_more _ _ _ _ (returns-clause-with c) (below c)

pub returns-clause-others : goal.returns-clause-others
returns-clause-others c other differs = ap (λ x. checks_of x other) (returns-clause-with c) ∙ checks_others c.args.self.now _ _ other differs
