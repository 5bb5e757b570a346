use Rattle.std.proofs.Common.{ap, sym, ◌∙◌}
use Rattle.tm_irq.proofs.Homing.{begins}
use Rattle.tm_irq.proofs.Seats.{new_seat}
use Rattle.tm_irq.proofs.kernel_seat.KernelSeat.new.Goals as goal

pub of_words-requires : goal.of_words-requires
of_words-requires c = begins c.args.devices

pub invariant_of-result : goal.invariant_of-result
invariant_of-result c =
    let shared = c.in_ok-table-2.ensures.ok in
    let made = c.in_ok-table.ensures in
    new_seat _ c.in_ok-table.seat c.args.devices _ _ _ (made.2 ∙ ap (λ t. t.shared.table_id) (sym shared)) (ap (λ t. t.shared.table_id.words) shared ∙ made.0) made.4 c.none.ensures c.none-2.ensures c.none-3.ensures
