use Rattle.std.proofs.Common.{◌≡◌, ◌∙◌, ap, arith, slice_get, slice_set, Some}
use Rattle.tm_services.specs.Alarms.{AlarmsView, Off, Armed}
use Rattle.tm_services.specs.Waiting.{alarms_of}
use Rattle.tm_services.proofs.Waits.{room_where_absent}
use Rattle.tm_services.proofs.Listed.{IsFree, free_from_off, armed_list, armed_keeps, keeps_alarms}
use Rattle.tm_services.proofs.alarms.Alarms.arm.Goals as goal

pub insert-requires : goal.insert-requires
insert-requires c =
    let off : slice_get (alarms_of c.self.inside.waiting c.self.inside.number) c.args.alarm ≡ Some Off =
    ap (λ (v : AlarmsView). slice_get v.alarms c.args.alarm) c.self.view_is ∙ c.requires.off in
    let free : IsFree c.self.inside.waiting c.self.inside.number c.args.alarm = free_from_off c.self.inside.waiting c.self.inside.number c.args.alarm off in
    omega (arith, c.self.invariant.few, room_where_absent c.self.inside.number c.self.inside.waiting c.args.alarm c.self.invariant.waiting free.absent free.there)

pub invariant_of-self : goal.invariant_of-self
invariant_of-self c =
    let off : slice_get (alarms_of c.self.inside.waiting c.self.inside.number) c.args.alarm ≡ Some Off =
    ap (λ (v : AlarmsView). slice_get v.alarms c.args.alarm) c.self.view_is ∙ c.requires.off in
    let free : IsFree c.self.inside.waiting c.self.inside.number c.args.alarm = free_from_off c.self.inside.waiting c.self.inside.number c.args.alarm off in
    rw c.insert.ensures
    (armed_keeps c.self.inside.counter c.self.inside.waiting c.self.inside.number (record { alarm = c.args.alarm; wait = c.args.left; cycle = c.args.cycle })
    c.self.invariant free c.requires.left)

pub returns-clause-armed : goal.returns-clause-armed
returns-clause-armed c =
    let off : slice_get (alarms_of c.self.inside.waiting c.self.inside.number) c.args.alarm ≡ Some Off =
    ap (λ (v : AlarmsView). slice_get v.alarms c.args.alarm) c.self.view_is ∙ c.requires.off in
    let free : IsFree c.self.inside.waiting c.self.inside.number c.args.alarm = free_from_off c.self.inside.waiting c.self.inside.number c.args.alarm off in
    rw (c.insert.ensures, armed_list c.self.inside.waiting c.self.inside.number (record { alarm = c.args.alarm; wait = c.args.left; cycle = c.args.cycle }) free)
    (ap (λ (v : AlarmsView). record v { alarms = slice_set v.alarms c.args.alarm (Armed c.args.left c.args.cycle) }) c.self.view_is)

pub returns-clause-sound : goal.returns-clause-sound
returns-clause-sound c =
    keeps_alarms c.self.inside.counter c.insert.new.self c.self.inside.number (invariant_of-self c)
