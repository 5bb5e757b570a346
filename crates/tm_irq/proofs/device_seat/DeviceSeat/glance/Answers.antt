use Rattle.std.proofs.Common.{rules, refl}
use Rattle.tm_irq.proofs.Glancing.{glances_at}
use Rattle.tm_irq.proofs.Seats.{glanced_seat, glance_added}
use Rattle.tm_irq.proofs.device_seat.DeviceSeat.glance.Goals as goal

pub load-found-requires : goal.load-found-requires
load-found-requires c = (search rules, search rules, glances_at _ _ _ c.self.inside.seat.me c.self.invariant.kernel _ c.self.invariant.single)

pub invariant_of-self : goal.invariant_of-self
invariant_of-self c = glanced_seat _ c.self.inside.seat c.load-found.new.seat _ _ _ _ c.self.invariant c.load-found.ensures.0 c.load-found.ensures.2

pub returns-clause-glances : goal.returns-clause-glances
returns-clause-glances c = glance_added _ c.self.inside.seat c.load-found.new.seat _ _ _ _ c.self.invariant c.load-found.ensures.0 c.load-found.ensures.2 _ c.self.view_is _ refl
