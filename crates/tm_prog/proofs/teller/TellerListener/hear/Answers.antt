use Rattle.std.proofs.Common.{sym, ◌∙◌}
use Rattle.tm_prog.proofs.Traced.{news_from, entries_few, told_ok}
use Rattle.tm_prog.proofs.teller.TellerListener.hear.Goals as goal

pub note-requires-clause-from : goal.note-requires-clause-from
note-requires-clause-from c =
    news_from c.requires.image c.requires.history c.requires.moment c.args.machine.now c.args._task c.args.told.now c.requires.news

pub note-requires-clause-tasks : goal.note-requires-clause-tasks
note-requires-clause-tasks c = c.requires.stood.tasks ∙ sym c.requires.news.at.tasks

pub note-requires-clause-entries : goal.note-requires-clause-entries
note-requires-clause-entries c = entries_few c.args.machine.now c.args._task c.args.told.now c.args.self.now c.requires

pub returns-clause-stands : goal.returns-clause-stands
returns-clause-stands c = λ image h m news stood.
    told_ok c.note.result image h m c.args.machine.now c.args._task c.args.told.now c.args.self.now c.note.new.self news stood c.note.ensures
