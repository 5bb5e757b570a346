use Rattle.std.proofs.Common.{◌≡◌, ◌∙◌, sym, ap, slice_get}
use Rattle.tm_services.specs.Alarms.{AlarmsView, using, cancelled}
use Rattle.tm_services.specs.Waiting.{alarms_of}
use Rattle.tm_services.specs.declared.status.TheConstants.{E_OK}
use Rattle.tm_services.proofs.Listed.{cancelled_keeps, cancelled_view, keeps_alarms}
use Rattle.tm_services.proofs.alarms.Alarms.cancel.Goals as goal

pub invariant_of-self : goal.invariant_of-self
invariant_of-self c =
    rw c.remove.ensures (cancelled_keeps c.self.inside.counter c.self.inside.waiting c.self.inside.number _ c.self.invariant)

pub returns-then-status-eq-E_OK-clause-cancelled : goal.returns-then-status-eq-E_OK-clause-cancelled
returns-then-status-eq-E_OK-clause-cancelled c =
    let ok : using (slice_get (alarms_of c.self.inside.waiting c.self.inside.number) c.args.alarm) ≡ E_OK =
    ap (λ (v : AlarmsView). using (slice_get v.alarms c.args.alarm)) c.self.view_is ∙ sym c.using_status-status.ensures.status ∙ c.if-status-eq-E_OK.true in
    rw c.remove.ensures
    (cancelled_view c.self.inside.counter c.self.inside.waiting c.self.inside.number c.args.alarm c.self.invariant ok
    ∙ ap (λ (v : AlarmsView). cancelled v c.args.alarm) c.self.view_is)

pub returns-then-status-eq-E_OK-clause-sound : goal.returns-then-status-eq-E_OK-clause-sound
returns-then-status-eq-E_OK-clause-sound c =
    keeps_alarms c.self.inside.counter c.remove.new.self c.self.inside.number (invariant_of-self c)
