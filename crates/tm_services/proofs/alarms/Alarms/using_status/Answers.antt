use Rattle.std.proofs.Common.{◌≡◌, ◌∙◌, sym, ap, subst, arith, is_some, true, false, slice_get}
use Rattle.tm_services.specs.Alarms.{AlarmsView, IsAlarms, using}
use Rattle.tm_services.specs.Waiting.{left_of, countdown}
use Rattle.tm_services.proofs.Listed.{using_past, using_in_use, using_free, keeps_alarms}
use Rattle.tm_services.proofs.alarms.Alarms.using_status.Goals as goal

pub returns-then-alarm-from-clause-status : goal.returns-then-alarm-from-clause-status
returns-then-alarm-from-clause-status c =
    sym (using_past c.self.inside.waiting c.self.inside.number c.args.alarm (omega arith))
    ∙ ap (λ (v : AlarmsView). using (slice_get v.alarms c.args.alarm)) c.self.view_is

pub returns-then-alarm-from-clause-sound : goal.returns-then-alarm-from-clause-sound
returns-then-alarm-from-clause-sound c =
    subst IsAlarms c.self.view_is (keeps_alarms c.self.inside.counter c.self.inside.waiting c.self.inside.number c.self.invariant)

pub returns-then-is_some-clause-status : goal.returns-then-is_some-clause-status
returns-then-is_some-clause-status c =
    let used : is_some (left_of (countdown c.self.inside.waiting c.args.alarm)) ≡ true = cc in
    sym (using_in_use c.self.inside.waiting c.self.inside.number c.args.alarm (omega arith) used)
    ∙ ap (λ (v : AlarmsView). using (slice_get v.alarms c.args.alarm)) c.self.view_is

pub returns-then-is_some-clause-sound : goal.returns-then-is_some-clause-sound
returns-then-is_some-clause-sound c =
    subst IsAlarms c.self.view_is (keeps_alarms c.self.inside.counter c.self.inside.waiting c.self.inside.number c.self.invariant)

pub returns-else-is_some-clause-status : goal.returns-else-is_some-clause-status
returns-else-is_some-clause-status c =
    let off : is_some (left_of (countdown c.self.inside.waiting c.args.alarm)) ≡ false = cc in
    sym (using_free c.self.inside.waiting c.self.inside.number c.args.alarm (omega arith) off)
    ∙ ap (λ (v : AlarmsView). using (slice_get v.alarms c.args.alarm)) c.self.view_is

pub returns-else-is_some-clause-sound : goal.returns-else-is_some-clause-sound
returns-else-is_some-clause-sound c =
    subst IsAlarms c.self.view_is (keeps_alarms c.self.inside.counter c.self.inside.waiting c.self.inside.number c.self.invariant)
