use Rattle.std.proofs.Common.{subst, sym, ◌∙◌}
use Rattle.tm_system.specs.History.{History}
use Rattle.tm_system.specs.Run.{now, arrival}
use Rattle.tm_system.specs.Hearing.{StandAt}
use Rattle.tm_system.proofs.Hearing.{arrival_news, arrival_heard_of, arrival_heard_ok, arrival_stood, none_heard, none_arrives, on_ok}
use Rattle.tm_system.proofs.machine.Machine.arrival.Goals as goal

pub hear-requires : goal.hear-requires
hear-requires g c =
    let y = c.requires.young in
    let mask = c.args.slice.now.mask in
    let ports = c.args.slice.now.ports in
    let goes = sym c.ended.ensures ∙ c.if-ended-ne0.false in
    arrival_heard_of g.L.Listener.stands c.args._image.now mask ports c.args.self.now _ _ _ c.args.listener.now y goes
    (arrival_news c.args._image.now mask ports y.history c.args.self.now _ _ _ c.running-task.ensures.sound y.standing.at goes c.running-task.ensures.task
    (c.arrive-told.ensures.at c.args._image.now y.history y.standing.at) c.arrive-told.ensures.sound (c.arrive-told.ensures.told c.args._image.now y.history y.standing.at))

pub returns-then-ended-ne0-clause-stand : goal.returns-then-ended-ne0-clause-stand
returns-then-ended-ne0-clause-stand g c = λ h s.
    subst (λ (k : History). StandAt g.L.Listener.stands c.args._image.now c.args.self.now c.args.listener.now k)
    (sym (none_arrives c.args._image.now c.args.slice.now.mask c.args.slice.now.ports c.args.self.now h s.at
    (λ e. c.if-ended-ne0.true (c.ended.ensures ∙ e)))) s

pub returns-then-ended-ne0-clause-heard : goal.returns-then-ended-ne0-clause-heard
returns-then-ended-ne0-clause-heard g c =
    none_heard g.L.Listener.hears c.args.slice.now.mask c.args.slice.now.ports c.args.self.now c.args.listener.now
    (λ e. c.if-ended-ne0.true (c.ended.ensures ∙ e))

pub returns-clause-stand : goal.returns-clause-stand
returns-clause-stand g c = λ h s.
    let mask = c.args.slice.now.mask in
    let ports = c.args.slice.now.ports in
    let goes = sym c.ended.ensures ∙ c.if-ended-ne0.false in
    on_ok _ _ _
    (λ stood. arrival_stood g.L.Listener.stands c.args._image.now mask ports h c.args.self.now _ _ s.at goes
    (c.arrive-told.ensures.at c.args._image.now h s.at) stood)
    (c.hear.ensures.stands c.args._image.now h (arrival (now c.args._image.now h) mask ports)
    (arrival_news c.args._image.now mask ports h c.args.self.now _ _ _ c.running-task.ensures.sound s.at goes c.running-task.ensures.task
    (c.arrive-told.ensures.at c.args._image.now h s.at) c.arrive-told.ensures.sound (c.arrive-told.ensures.told c.args._image.now h s.at)) s.stood)

pub returns-clause-heard : goal.returns-clause-heard
returns-clause-heard g c =
    let goes = sym c.ended.ensures ∙ c.if-ended-ne0.false in
    arrival_heard_ok c.hear.result g.L.Listener.hears c.args.slice.now.mask c.args.slice.now.ports c.args.self.now c.arrive-told.new.self
    c.args.listener.now c.hear.new.self c.running-task.result c.arrive-told.result goes c.running-task.ensures.task (c.arrive-told.ensures.done goes)
    c.hear.ensures.heard
