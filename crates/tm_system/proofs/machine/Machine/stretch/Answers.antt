use Rattle.std.proofs.Common.{sym, subst, arith}
use Rattle.tm_system.specs.History.{History}
use Rattle.tm_system.specs.Run.{turns}
use Rattle.tm_system.specs.Hearing.{heard, StandAt}
use Rattle.tm_system.proofs.Playing.{turns_more}
use Rattle.tm_system.proofs.Hearing.{epoch_few, turns_young, quiet_stood, quiet_heard, then_heard}
use Rattle.tm_system.proofs.machine.Machine.stretch.Goals as goal

pub advance-went-requires-clause-epoch : goal.advance-went-requires-clause-epoch
advance-went-requires-clause-epoch g c =
    epoch_few g.L.Listener.stands c.args.image.now c.args.self.now c.args.listener.now c.args.most c.requires.young c.running-running.ensures.sound c.requires.runs

pub returns-then-went-most-clause-stand : goal.returns-then-went-most-clause-stand
returns-then-went-most-clause-stand g c = λ h s.
    quiet_stood g.L.Listener.stands c.args.image.now h c.advance-went.result c.args.self.now c.advance-went.new.self c.args.listener.now
    (λ a b. g.met.L.Listener.rests c.args.image.now a b c.args.listener.now) s c.requires.runs
    (c.advance-went.ensures.at h s.at) (c.advance-went.ensures.quiet h s.at)

pub returns-then-went-most-clause-heard : goal.returns-then-went-most-clause-heard
returns-then-went-most-clause-heard g c =
    quiet_heard g.L.Listener.hears c.args.image.now c.advance-went.result c.args.self.now c.advance-went.new.self c.args.listener.now
    (λ m t. g.met.L.Listener.unheard m t c.args.listener.now) c.requires.runs c.advance-went.ensures.done

pub instruction-requires-clause-young : goal.instruction-requires-clause-young
instruction-requires-clause-young g c =
    let y = c.requires.young in
    turns_young g.L.Listener.stands c.args.image.now y.history c.advance-went.result c.args.most 0 c.advance-went.new.self c.args.listener.now
    c.requires.image y.bodies y.few (omega (arith, c.advance-went.ensures.within))
    (quiet_stood g.L.Listener.stands c.args.image.now y.history c.advance-went.result c.args.self.now c.advance-went.new.self c.args.listener.now
    (λ a b. g.met.L.Listener.rests c.args.image.now a b c.args.listener.now) y.standing c.requires.runs
    (c.advance-went.ensures.at y.history y.standing.at) (c.advance-went.ensures.quiet y.history y.standing.at))

pub returns-clause-stand : goal.returns-clause-stand
returns-clause-stand g c = λ h s.
    subst (λ (k : History). StandAt g.L.Listener.stands c.args.image.now c.instruction.new.self c.instruction.new.listener k)
    (sym (turns_more c.args.image.now c.advance-went.result h))
    (c.in_ok-instruction.ensures.stand (turns c.args.image.now c.advance-went.result h)
    (quiet_stood g.L.Listener.stands c.args.image.now h c.advance-went.result c.args.self.now c.advance-went.new.self c.args.listener.now
    (λ a b. g.met.L.Listener.rests c.args.image.now a b c.args.listener.now) s c.requires.runs
    (c.advance-went.ensures.at h s.at) (c.advance-went.ensures.quiet h s.at)))

pub returns-clause-heard : goal.returns-clause-heard
returns-clause-heard g c =
    then_heard g.L.Listener.hears c.args.image.now c.advance-went.result (heard c.args.self.now c.args.listener.now)
    (heard c.advance-went.new.self c.args.listener.now) (heard c.instruction.new.self c.instruction.new.listener)
    (quiet_heard g.L.Listener.hears c.args.image.now c.advance-went.result c.args.self.now c.advance-went.new.self c.args.listener.now
    (λ m t. g.met.L.Listener.unheard m t c.args.listener.now) c.requires.runs c.advance-went.ensures.done)
    c.in_ok-instruction.ensures.heard
