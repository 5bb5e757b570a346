use Rattle.std.proofs.Common.{◌≡◌, ◌∙◌, refl, sym, ap, subst, arith, is_some, true, false, slice_get, Some}
use Rattle.tm_services.specs.Alarms.{AlarmsView, IsAlarms, Off, setting}
use Rattle.tm_services.specs.Waiting.{left_of, countdown}
use Rattle.tm_services.proofs.Listed.{setting_past, setting_in_use, setting_free, keeps_alarms}
use Rattle.tm_services.proofs.alarms.Alarms.setting_status.Goals as goal

pub returns-then-alarm-from-clause-status : goal.returns-then-alarm-from-clause-status
returns-then-alarm-from-clause-status c =
    sym (setting_past c.self.inside.waiting c.self.inside.number c.args.alarm c.args.good (omega arith))
    ∙ ap (λ (v : AlarmsView). setting (slice_get v.alarms c.args.alarm) c.args.good) c.self.view_is

pub returns-then-alarm-from-clause-sound : goal.returns-then-alarm-from-clause-sound
returns-then-alarm-from-clause-sound c =
    subst IsAlarms c.self.view_is (keeps_alarms c.self.inside.counter c.self.inside.waiting c.self.inside.number c.self.invariant)

pub returns-then-is_some-clause-status : goal.returns-then-is_some-clause-status
returns-then-is_some-clause-status c =
    let used : is_some (left_of (countdown c.self.inside.waiting c.args.alarm)) ≡ true = cc in
    sym (setting_in_use c.self.inside.waiting c.self.inside.number c.args.alarm c.args.good (omega arith) used)
    ∙ ap (λ (v : AlarmsView). setting (slice_get v.alarms c.args.alarm) c.args.good) c.self.view_is

pub returns-then-is_some-clause-sound : goal.returns-then-is_some-clause-sound
returns-then-is_some-clause-sound c =
    subst IsAlarms c.self.view_is (keeps_alarms c.self.inside.counter c.self.inside.waiting c.self.inside.number c.self.invariant)

pub returns-then-good-clause-status : goal.returns-then-good-clause-status
returns-then-good-clause-status c =
    let off : is_some (left_of (countdown c.self.inside.waiting c.args.alarm)) ≡ false = cc in
    let good : setting (Some Off) c.args.good ≡ 0 = rw (c.if-good.true) refl in
    sym (setting_free c.self.inside.waiting c.self.inside.number c.args.alarm c.args.good (omega arith) off ∙ good)
    ∙ ap (λ (v : AlarmsView). setting (slice_get v.alarms c.args.alarm) c.args.good) c.self.view_is

pub returns-then-good-clause-sound : goal.returns-then-good-clause-sound
returns-then-good-clause-sound c =
    subst IsAlarms c.self.view_is (keeps_alarms c.self.inside.counter c.self.inside.waiting c.self.inside.number c.self.invariant)

pub returns-else-good-clause-status : goal.returns-else-good-clause-status
returns-else-good-clause-status c =
    let off : is_some (left_of (countdown c.self.inside.waiting c.args.alarm)) ≡ false = cc in
    let bad : setting (Some Off) c.args.good ≡ 8 = rw (c.if-good.false) refl in
    sym (setting_free c.self.inside.waiting c.self.inside.number c.args.alarm c.args.good (omega arith) off ∙ bad)
    ∙ ap (λ (v : AlarmsView). setting (slice_get v.alarms c.args.alarm) c.args.good) c.self.view_is

pub returns-else-good-clause-sound : goal.returns-else-good-clause-sound
returns-else-good-clause-sound c =
    subst IsAlarms c.self.view_is (keeps_alarms c.self.inside.counter c.self.inside.waiting c.self.inside.number c.self.invariant)
