use Rattle.std.proofs.Common.{rules, ap, ◌∙◌}
use Rattle.tm_irq.proofs.Homing.{splits_at}
use Rattle.tm_irq.proofs.Seats.{split_seat}
use Rattle.tm_irq.proofs.kernel_seat.KernelSeat.split.Goals as goal

pub split_seat-seat-requires : goal.split_seat-seat-requires
split_seat-seat-requires c = (search rules, search rules, splits_at _ _ c.self.inside.seat.me.0 _ _ c.self.invariant.kernel (ap (λ k. k.home) c.self.view_is ∙ c.requires))

pub invariant_of-self : goal.invariant_of-self
invariant_of-self c = split_seat _ c.self.inside.seat c.split_seat-seat.new.seat _ _ _ _ c.self.invariant c.split_seat-seat.ensures.0 _ _ (ap (λ k. k.home) c.self.view_is ∙ c.requires) c.split_seat-seat.ensures.2
