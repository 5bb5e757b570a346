use Rattle.std.proofs.Common.{rules, ◌≡◌, ◌∙◌, arith}
use Rattle.tm_services.specs.Ceilings.{CeilingsView, release_status, released}
use Rattle.tm_services.specs.Held.{view_of}
use Rattle.tm_services.proofs.Holding.{IsLast, last_from_status}
use Rattle.tm_services.proofs.Summary.{given_fields, released_fields}
use Rattle.tm_services.proofs.ceilings.Ceilings.give_back.Goals as goal

pub invariant_of-self : goal.invariant_of-self
invariant_of-self c =
    let view : CeilingsView = view_of c.self.inside.static_priority c.self.inside.users c.self.inside.resources c.self.inside.held in
    let same : release_status view c.from-index.result c.args.res ≡ release_status c.args.self.now c.args.task c.args.res = search rules in
    let last : IsLast view c.from-index.result c.args.res = last_from_status view c.from-index.result c.args.res (same ∙ c.requires.last) in
    given_fields _ _ _ _ _ _ _ c.from-index.result c.args.res c.raised.result c.index-self-index.result c.pop.new.self
    c.self.invariant (omega arith) (omega arith) (omega arith) last c.pop.ensures
    (rw (← c.as_slice.ensures) c.raised.ensures)

pub returns-clause-released : goal.returns-clause-released
returns-clause-released c =
    let view : CeilingsView = view_of c.self.inside.static_priority c.self.inside.users c.self.inside.resources c.self.inside.held in
    let same : release_status view c.from-index.result c.args.res ≡ release_status c.args.self.now c.args.task c.args.res = search rules in
    let after : released view c.from-index.result c.args.res ≡ released c.args.self.now c.args.task c.args.res = search rules in
    released_fields c.self.inside.static_priority c.self.inside.users c.self.inside.resources c.self.inside.held
    c.from-index.result c.args.res c.index-self-index.result c.pop.new.self (omega arith) (same ∙ c.requires.last) c.pop.ensures
    ∙ after

pub returns-clause-sound : goal.returns-clause-sound
returns-clause-sound c = (invariant_of-self c).0
