use Rattle.std.proofs.Common.{◌≡◌, ◌+◌, Some, None, ap, sym, ◌∙◌, length, refl, Err}
use Rattle.std.specs.Prelude.{option_copied}
use Rattle.std.proofs.lemmas.Bool.{ne_eqb}
use Rattle.tm_ring.specs.Kept.{item_of}
use Rattle.tm_task.specs.Standing.{TaskView}
use Rattle.tm_system.specs.declared.diverged.Why.TheVariants.{NoEntry}
use Rattle.tm_system.proofs.Walking.{next_no_entry, next_other}
use Rattle.tm_replay.specs.Walking.{alone_of, place_of}
use Rattle.tm_replay.proofs.Walks.{next_entry, answers, words_answered}
use Rattle.tm_replay.proofs.walker.Walker.answer.Goals as goal

pub returns-in_default-clause-went : goal.returns-in_default-clause-went
returns-in_default-clause-went c =
    let none : item_of c.args.self.now.log.now (c.args.self.now.first + c.args.self.now.used) ≡ None =
    sym c.get.ensures.item ∙ ap option_copied c.in_default.is in (
      next_no_entry (alone_of c.args.self.now) (place_of c.args.self.now) c.args.service c.requires.calls
          (next_entry c.args.self.now.log.now c.args.self.now.first c.args.self.now.used c.requires.sound.kept ∙ none)
          ∙ ap (λ n. Err (NoEntry n)) (sym c.total-total.ensures.total),
      refl,
    )

pub returns-then-entry-service-clause-went : goal.returns-then-entry-service-clause-went
returns-then-entry-service-clause-went c =
    let there : item_of c.args.self.now.log.now (c.args.self.now.first + c.args.self.now.used) ≡ Some c.in-Some.entry.now =
    sym c.get.ensures.item ∙ ap option_copied c.in-Some.is in (
      next_other (alone_of c.args.self.now) (place_of c.args.self.now) c.args.service c.in-Some.entry.now c.requires.calls
          (next_entry c.args.self.now.log.now c.args.self.now.first c.args.self.now.used c.requires.sound.kept ∙ there)
          (ne_eqb c.in-Some.entry.now.service c.args.service c.if-entry-service.true),
      refl,
    )

pub returns-clause-went : goal.returns-clause-went
returns-clause-went c =
    let there : item_of c.args.self.now.log.now (c.args.self.now.first + c.args.self.now.used) ≡ Some c.in-Some.entry.now =
    sym c.get.ensures.item ∙ ap option_copied c.in-Some.is in
    answers c.args.self.now c.answer.new.self c.args.service c.in-Some.entry.now _ c.add.new.made c.requires.sound.kept c.requires.calls there
    c.if-entry-service.false (c.output_of.ensures c.args.self.now.task.standing.body c.args-2.ensures) c.answer.ensures.answered
    c.in_ok-add.ensures

pub returns-clause-words : goal.returns-clause-words
returns-clause-words c =
    ap (λ (t : TaskView). length t.standing.body.words) c.answer.ensures.answered
    ∙ words_answered c.args.self.now.task.entry c.args.self.now.task.standing c.in-Some.entry.now
