use Rattle.std.proofs.Common.{rules, ◌<◌, ◌^◌, length, sym, subst, arith}
use Rattle.tm_irq.proofs.Taking.{takes_at}
use Rattle.tm_irq.proofs.Seats.{taken_seat}
use Rattle.tm_irq.proofs.kernel_seat.KernelSeat.take.Goals as goal

pub swap-found-requires : goal.swap-found-requires
swap-found-requires c = let numbered = c.self.invariant.numbered in (search rules, search rules, takes_at _ _ _ c.self.inside.seat.me _ c.self.invariant.kernel (omega arith))

pub invariant_of-self : goal.invariant_of-self
invariant_of-self c = taken_seat _ c.self.inside.seat _ _ _ _ _ _ _ c.self.invariant c.swap-found.ensures.0 c.swap-found.ensures.2 (subst (λ k. length k.takes < 2 ^ 47) (sym c.self.view_is) c.requires) c.add_mask.ensures
