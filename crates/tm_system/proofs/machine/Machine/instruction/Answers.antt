use Rattle.tm_system.specs.Run.{next_moment}
use Rattle.tm_system.proofs.Hearing.{epoch_few, turn_news, turn_heard_of, turn_heard_ok, turn_stood, on_ok}
use Rattle.tm_system.proofs.machine.Machine.instruction.Goals as goal

pub turn-told-requires-clause-epoch : goal.turn-told-requires-clause-epoch
turn-told-requires-clause-epoch g c =
    epoch_few g.L.Listener.stands c.args.image.now c.args.self.now c.args.listener.now 0 c.requires.young c.running-task.ensures.sound c.requires.runs

pub hear-requires : goal.hear-requires
hear-requires g c =
    let y = c.requires.young in
    turn_heard_of g.L.Listener.stands c.args.image.now c.args.self.now _ _ _ c.args.listener.now c.requires.image y
    (turn_news c.args.image.now y.history c.args.self.now _ _ _ c.running-task.ensures.sound y.standing.at c.requires.runs c.running-task.ensures.task
    (c.turn-told.ensures.at y.history y.standing.at) c.turn-told.ensures.sound (c.turn-told.ensures.told y.history y.standing.at))

pub returns-clause-stand : goal.returns-clause-stand
returns-clause-stand g c = λ h s.
    on_ok _ _ _
    (λ stood. turn_stood g.L.Listener.stands c.args.image.now h c.args.self.now _ _ s.at c.requires.runs (c.turn-told.ensures.at h s.at) stood)
    (c.hear.ensures.stands c.args.image.now h (next_moment c.args.image.now h)
    (turn_news c.args.image.now h c.args.self.now _ _ _ c.running-task.ensures.sound s.at c.requires.runs c.running-task.ensures.task
    (c.turn-told.ensures.at h s.at) c.turn-told.ensures.sound (c.turn-told.ensures.told h s.at)) s.stood)

pub returns-clause-heard : goal.returns-clause-heard
returns-clause-heard g c =
    turn_heard_ok c.hear.result g.L.Listener.hears c.args.image.now c.args.self.now c.turn-told.new.self c.args.listener.now c.hear.new.self
    c.running-task.result c.turn-told.result c.requires.runs c.running-task.ensures.task c.turn-told.ensures.done c.hear.ensures.heard
