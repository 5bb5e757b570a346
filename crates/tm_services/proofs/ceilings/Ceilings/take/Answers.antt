use Rattle.std.proofs.Common.{rules, ◌≡◌, ◌<◌, ◌∙◌, length, arith}
use Rattle.tm_services.specs.Ceilings.{CeilingsView, get_status, got}
use Rattle.tm_services.specs.Held.{view_of}
use Rattle.tm_services.proofs.Holding.{IsFree, free_from_status, room_where_free}
use Rattle.tm_services.proofs.Summary.{taken_fields, got_fields, held_by-view_of}
use Rattle.tm_services.proofs.ceilings.Ceilings.take.Goals as goal

pub push-requires : goal.push-requires
push-requires c =
    let view : CeilingsView = view_of c.self.inside.static_priority c.self.inside.users c.self.inside.resources c.self.inside.held in
    let same : get_status view c.from-index.result c.args.res ≡ get_status c.args.self.now c.args.task c.args.res = search rules in
    let free : IsFree view c.from-index.result c.args.res = free_from_status view c.from-index.result c.args.res (same ∙ c.requires.free) in
    let there : c.from-index.result < length c.self.inside.held = omega arith in
    rw (← held_by-view_of c.self.inside.static_priority c.self.inside.users c.self.inside.resources c.self.inside.held c.from-index.result c.index-self-index.result there)
    (room_where_free view c.from-index.result c.args.res c.self.invariant.0 free)

pub invariant_of-self : goal.invariant_of-self
invariant_of-self c =
    let view : CeilingsView = view_of c.self.inside.static_priority c.self.inside.users c.self.inside.resources c.self.inside.held in
    let same : get_status view c.from-index.result c.args.res ≡ get_status c.args.self.now c.args.task c.args.res = search rules in
    let free : IsFree view c.from-index.result c.args.res = free_from_status view c.from-index.result c.args.res (same ∙ c.requires.free) in
    rw (c.max.ensures, c.from.ensures)
    (taken_fields _ _ _ _ _ _ _ c.from-index.result c.args.res c.index-self-index.result c.push.new.self
    c.self.invariant (omega arith) (omega arith) (omega arith) free c.push.ensures)

pub returns-clause-got : goal.returns-clause-got
returns-clause-got c =
    let view : CeilingsView = view_of c.self.inside.static_priority c.self.inside.users c.self.inside.resources c.self.inside.held in
    let same : get_status view c.from-index.result c.args.res ≡ get_status c.args.self.now c.args.task c.args.res = search rules in
    let after : got view c.from-index.result c.args.res ≡ got c.args.self.now c.args.task c.args.res = search rules in
    got_fields c.self.inside.static_priority c.self.inside.users c.self.inside.resources c.self.inside.held
    c.from-index.result c.args.res c.index-self-index.result c.push.new.self (omega arith) (same ∙ c.requires.free) c.push.ensures
    ∙ after

pub returns-clause-sound : goal.returns-clause-sound
returns-clause-sound c = (invariant_of-self c).0
