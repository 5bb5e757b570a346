use Rattle.std.proofs.Common.{◌≤◌, ◌∙◌, ap, length, take, drop, ◌++◌, List, arith}
use Rattle.tm_services.specs.declared.waiting.Entry.{Entry}
use Rattle.tm_services.specs.Waiting.{sooner}
use Rattle.tm_services.proofs.Differences.{take_sooner}
use Rattle.tm_services.proofs.waiting.Waiting.bring_forward.Goals as goal

pub returns-then-index-self : goal.returns-then-index-self
returns-then-index-self c =
    let fits : c.self.inside.number ≤ length c.self.inside.entries = omega arith in
    take_sooner c.self.inside.number c.args.index c.args.ticks c.self.inside.entries _ c.if-index-self.true fits
    ∙ ap (λ (es : List Entry). take c.args.index es ++ sooner c.args.ticks (drop c.args.index es)) c.self.view_is
