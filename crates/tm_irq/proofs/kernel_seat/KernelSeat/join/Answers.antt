use Rattle.std.proofs.Common.{rules, ap, sym, ◌∙◌}
use Rattle.tm_irq.proofs.Homing.{joins_at}
use Rattle.tm_irq.proofs.Seats.{home_seat}
use Rattle.tm_irq.proofs.kernel_seat.KernelSeat.join.Goals as goal

pub join_seat-requires : goal.join_seat-requires
join_seat-requires c = (
  search rules,
  ap (λ d. d.table) c.device.view_is ∙ c.requires ∙ sym (ap (λ k. k.table) c.self.view_is) ∙ c.self.invariant.fits ∙ ap (λ t. t.shared.table_id) (sym c.deref.ensures),
  c.device.invariant.bare,
  search rules,
  joins_at _ _ c.self.inside.seat.me.0 _ c.device.inside.seat.me.0 c.self.invariant.kernel,
)

pub invariant_of-self : goal.invariant_of-self
invariant_of-self c = home_seat _ _ c.self.inside.seat c.join_seat.new.seat c.device.inside.seat _ _ _ _ _ _ _ _ c.self.invariant c.device.invariant c.join_seat.ensures.0 c.join_seat.ensures.2 c.add_all.ensures c.add_all-2.ensures
