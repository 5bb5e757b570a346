use Rattle.std.proofs.Common.{◌∙◌, ap, subst}
use Rattle.tm_io.specs.Shelf.{ShelfView}
use Rattle.tm_prog.specs.Class.{class_of}
use Rattle.tm_prog.specs.World.{world, all_done, IsHalfDone}
use Rattle.tm_prog.proofs.Answering.{unmade_as}
use Rattle.tm_prog.proofs.watch_call.obey_under.Goals as goal

pub returns-in-Err-clause-answer : goal.returns-in-Err-clause-answer
returns-in-Err-clause-answer g c =
    unmade_as _ _ _ (class_of c.in-Err.status) c.in-Err.status _ _ _ c.in-Err.ensures.unmade

pub returns-in-Ok-deliver-clause-answer : goal.returns-in-Ok-deliver-clause-answer
returns-in-Ok-deliver-clause-answer g c =
    let sink = g.K.Sink.seen c.args.out.now in (
      c.in-Ok.made,
      c.in-Ok.ensures.made,
      c.in-Ok-deliver.ensures.done ∙ ap (λ (s : ShelfView). all_done c.in-Ok.made (world s sink)) c.in-Ok.ensures.shelf,
    )

pub returns-clause-answer : goal.returns-clause-answer
returns-clause-answer g c =
    let sink = g.K.Sink.seen c.args.out.now in
    let now = world (g.F.Shelf.seen c.deliver.new.shelf) (g.K.Sink.seen c.deliver.new.out) in (
      c.in-Ok.made,
      c.in-Ok.ensures.made,
      subst (λ (s : ShelfView). IsHalfDone c.in-Ok.made (world s sink) now) c.in-Ok.ensures.shelf c.in-Err-deliver.ensures.half_done,
    )
