use Rattle.std.proofs.Common.{◌∷◌, sym, ap, subst}
use Rattle.tm_log.specs.Window.{WindowView}
use Rattle.tm_system.specs.Hearing.{CanHear}
use Rattle.tm_record.specs.Recording.{IsNoted, noted}
use Rattle.tm_record.proofs.Moments.{news_room, news_concerns, news_noted}
use Rattle.tm_record.proofs.noting.NotesListener.hear.Goals as goal

pub note-requires-clause-room : goal.note-requires-clause-room
note-requires-clause-room c =
    news_room c.args.machine.now c.args.task c.args.told.now c.self.inside.window c.tasks-tasks.ensures.window
    (subst (λ (w : WindowView). CanHear IsNoted c.args.machine.now c.args.task c.args.told.now w) (sym c.self.view_is) c.requires)

pub note-requires-clause-concerns : goal.note-requires-clause-concerns
note-requires-clause-concerns c =
    news_concerns c.requires.image c.requires.history c.requires.moment c.args.machine.now c.args.task c.args.told.now c.requires.news

pub returns-clause-stands : goal.returns-clause-stands
returns-clause-stands c = λ image h m news stood.
    subst (λ (w : WindowView). IsNoted image (m ∷ h) w) (sym c.note.ensures)
    (news_noted image h m c.args.machine.now c.self.inside.window c.args.task c.args.told.now c.tasks-tasks.ensures.window news
    (subst (λ (w : WindowView). IsNoted image h w) (sym c.self.view_is) stood))
