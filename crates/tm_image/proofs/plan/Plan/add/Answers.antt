use Rattle.std.proofs.Common.{arith, rules}
use Rattle.std.proofs.lemmas.List.Elements.{All-push}
use Rattle.tm_image.specs.Plan.{IsSlice}
use Rattle.tm_image.proofs.plan.Plan.add.Goals as goal

pub invariant_of-self-2 : goal.invariant_of-self-2
invariant_of-self-2 c =
    rw c.in_ok-push.ensures.ok
    (All-push IsSlice _ _ c.self.invariant (record { short = omega arith; lines = omega arith; ports = search rules }))
