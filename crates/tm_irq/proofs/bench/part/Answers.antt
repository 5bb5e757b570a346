use Rattle.tm_irq.proofs.Gathering.{next_idle, parts_next}
use Rattle.tm_irq.proofs.bench.part.Goals as goal

pub split-requires : goal.split-requires
split-requires c = next_idle _ _ _ _ _ c.loop.invariant c.loop-test.true

pub loop-preserved : goal.loop-preserved
loop-preserved c = parts_next _ _ _ _ _ c.loop.invariant c.loop-test.true _ _ _ c.in_ok-seat.ensures.home c.in_ok-seat.ensures.seat c.in_ok-push.ensures.items
