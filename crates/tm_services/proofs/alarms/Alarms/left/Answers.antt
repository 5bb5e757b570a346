use Rattle.std.proofs.Common.{◌≡◌, ◌∙◌, ap, slice_get, unwrap_or}
use Rattle.tm_services.specs.Alarms.{AlarmsView, ticks_of}
use Rattle.tm_services.specs.Waiting.{left_of, countdown}
use Rattle.tm_services.proofs.Listed.{ticks_answered}
use Rattle.tm_services.proofs.alarms.Alarms.left.Goals as goal

pub returns-clause-ticks : goal.returns-clause-ticks
returns-clause-ticks c =
    let answer : c.unwrap_or.result ≡ unwrap_or (left_of (countdown c.self.inside.waiting c.args.alarm)) 0 = cc in
    answer ∙ ticks_answered c.self.inside.waiting c.self.inside.number c.args.alarm c.self.invariant.waiting
    ∙ ap (λ (v : AlarmsView). ticks_of (slice_get v.alarms c.args.alarm)) c.self.view_is
