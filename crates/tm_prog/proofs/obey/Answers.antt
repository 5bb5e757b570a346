use Rattle.std.proofs.Common.{◌∙◌, ap, subst, refl, Some}
use Rattle.tm_io.specs.Shelf.{ShelfView}
use Rattle.tm_prog.specs.Class.{class_of}
use Rattle.tm_prog.specs.World.{world, all_done, IsHalfDone}
use Rattle.tm_prog.proofs.Answering.{unmade, made_is, bench_rests}
use Rattle.tm_prog.proofs.obey.Goals as goal

pub returns-in-Err-clause-answer : goal.returns-in-Err-clause-answer
returns-in-Err-clause-answer g c =
    unmade (class_of c.in-Err.status) c.in-Err.status _ c.args.command.now _ _ _ _ refl c.in-Err.ensures.reads

pub returns-in-Ok-deliver-clause-answer : goal.returns-in-Ok-deliver-clause-answer
returns-in-Ok-deliver-clause-answer g c =
    let sink = g.K.Sink.seen c.args.out.now in (
      c.in-Ok.made,
      made_is (Some c.args.command.now) c.args.command.now _ c.in-Ok.made (world (g.F.Shelf.seen c.args.shelf.now) sink) refl c.in-Ok.ensures.made c.in-Ok.ensures.reads.1,
      c.in-Ok-deliver.ensures.done ∙ ap (λ (s : ShelfView). all_done c.in-Ok.made (world s sink)) c.in-Ok.ensures.reads.0,
    )

pub returns-clause-answer : goal.returns-clause-answer
returns-clause-answer g c =
    let sink = g.K.Sink.seen c.args.out.now in
    let now = world (g.F.Shelf.seen c.deliver.new.shelf) (g.K.Sink.seen c.deliver.new.out) in (
      c.in-Ok.made,
      made_is (Some c.args.command.now) c.args.command.now _ c.in-Ok.made (world (g.F.Shelf.seen c.args.shelf.now) sink) refl c.in-Ok.ensures.made c.in-Ok.ensures.reads.1,
      subst (λ (s : ShelfView). IsHalfDone c.in-Ok.made (world s sink) now) c.in-Ok.ensures.reads.0 c.in-Err-deliver.ensures.half_done,
    )

pub returns-in-Err-clause-bench : goal.returns-in-Err-clause-bench
returns-in-Err-clause-bench g c =
    bench_rests (class_of c.in-Err.status) c.in-Err.status _ _ _ _ _ _ _ c.in-Err.ensures.reads c.in-Err.ensures.rests
