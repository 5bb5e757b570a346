use Rattle.tm_watch.proofs.Seating.{seated_next}
use Rattle.tm_watch.proofs.watch.Watch.new.Goals as goal

pub loop-preserved : goal.loop-preserved
loop-preserved g c =
    seated_next _ _ _ _ _ _ _ _ c.loop.invariant c.observer-observer.ensures.new c.observer-observer.ensures.same c.push_reserved.ensures.items
    c.push_reserved.ensures.len c.push_reserved.ensures.capacity
