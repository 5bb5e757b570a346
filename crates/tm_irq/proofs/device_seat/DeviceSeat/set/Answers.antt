use Rattle.std.proofs.Common.{rules, ◌≡◌, ◌+◌, arith, ap, ◌∙◌}
use Rattle.tm_irq.proofs.Porting.{sets_by}
use Rattle.tm_irq.proofs.Seats.{set_seat, set_me}
use Rattle.tm_irq.proofs.device_seat.DeviceSeat.set.Goals as goal

pub store-requires : goal.store-requires
store-requires c =
    let port_is = c.from.ensures in
    let five : c.deref.result.now.shared.table_id.words ≡ 5 = ap (λ t. t.shared.table_id.words) c.deref.ensures ∙ c.self.invariant.five in
    let within = c.requires in (
      search rules,
      omega arith,
      sets_by _ _ _ c.self.inside.seat.me c.args.port c.args.value _ _ (ap (λ n. n + 1) port_is) c.from-2.ensures c.requires c.ranges.value.fits c.self.invariant.kernel _ c.self.invariant.single,
    )

pub invariant_of-self : goal.invariant_of-self
invariant_of-self c =
    let e = c.store.ensures in
    set_seat _ c.self.inside.seat c.store.new.seat _ _ _ c.self.invariant e.0 (set_me c.args.port _ _ _ _ (ap (λ n. n + 1) c.from.ensures) e.2 c.args.value c.from-2.ensures)
