use Rattle.std.proofs.Common.{arith}
use Rattle.tm_system.specs.Hearing.{heard}
use Rattle.tm_system.proofs.Hearing.{arrived_young, slice_heard_ok}
use Rattle.tm_system.proofs.machine.Machine.slice.Goals as goal

pub arrival-requires-clause-young : goal.arrival-requires-clause-young
arrival-requires-clause-young g c =
    let y = c.requires.young in
    record { history = y.history; standing = y.standing; bodies = y.bodies; few = omega (arith, y.few) }

pub instructions-requires-clause-young : goal.instructions-requires-clause-young
instructions-requires-clause-young g c =
    let y = c.requires.young in
    arrived_young g.L.Listener.stands c.args.image.now c.args.self.now _ c.args.listener.now _ c.args.slice.now.mask c.args.slice.now.ports c.args.slice.now.length
    y c.requires.slice.short (c.in_ok-arrival.ensures.stand y.history y.standing)

pub returns-clause-stand : goal.returns-clause-stand
returns-clause-stand g c = λ h s. c.instructions.ensures.stand _ (c.in_ok-arrival.ensures.stand h s)

pub returns-clause-heard : goal.returns-clause-heard
returns-clause-heard g c =
    slice_heard_ok c.instructions.result g.L.Listener.hears c.args.image.now c.args.slice.now (heard c.args.self.now c.args.listener.now)
    (heard c.arrival.new.self c.arrival.new.listener) (heard c.instructions.new.self c.instructions.new.listener)
    c.in_ok-arrival.ensures.heard c.instructions.ensures.heard
