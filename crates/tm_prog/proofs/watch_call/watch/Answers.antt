use Rattle.std.proofs.Common.{refl}
use Rattle.tm_words.specs.Words.{texts}
use Rattle.tm_words.specs.Watch.{watch_of}
use Rattle.tm_prog.specs.Class.{class_of}
use Rattle.tm_prog.proofs.Consequences.{counts_as, stays_as, only_these, unput_as, undisturbed_as, refusals_as}
use Rattle.tm_prog.proofs.Watching.{asks_to_watch, has_names}
use Rattle.tm_prog.proofs.watch_call.watch.Goals as goal

pub returns-clause-counts : goal.returns-clause-counts
returns-clause-counts g c = counts_as _ _ _ (class_of c.watched.result) c.watched.result _ _ c.watched.ensures.answer

pub returns-clause-stays : goal.returns-clause-stays
returns-clause-stays g c = stays_as _ _ _ (class_of c.watched.result) c.watched.result _ _ c.watched.ensures.answer

pub returns-clause-others_stay : goal.returns-clause-others_stay
returns-clause-others_stay g c =
    only_these _ _ _ (class_of c.watched.result) c.watched.result _ _ c.watched.ensures.answer _ (λ made is. has_names _ _ made _ is)

pub returns-clause-unput : goal.returns-clause-unput
returns-clause-unput g c = unput_as _ _ _ c.watched.result _ _ c.watched.ensures.answer

pub returns-clause-undisturbed : goal.returns-clause-undisturbed
returns-clause-undisturbed g c = λ tells files due quiet.
    undisturbed_as _ _ _ (class_of c.watched.result) c.watched.result _ _ files c.watched.ensures.answer refl tells (asks_to_watch (g.F.Shelf.seen c.args.shelf.now).content (watch_of (texts c.args.words.now)) files due) due quiet

pub returns-clause-refusals : goal.returns-clause-refusals
returns-clause-refusals g c = refusals_as _ _ _ c.watched.result _ _ c.watched.ensures.answer
