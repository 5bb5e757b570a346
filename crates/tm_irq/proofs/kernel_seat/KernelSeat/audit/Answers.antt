use Rattle.std.proofs.Common.{rules, ◌%◌, sym, subst}
use Rattle.tm_irq.specs.Lists.{KernelLists}
use Rattle.tm_irq.specs.Audit.{AllHome, IsAudit, IsSettled}
use Rattle.tm_irq.proofs.Settling.{settles_at}
use Rattle.tm_irq.proofs.Seats.{kernel_still}
use Rattle.tm_irq.proofs.Auditing.{pending_counts}
use Rattle.tm_irq.proofs.kernel_seat.KernelSeat.audit.Goals as goal

pub load-found-requires : goal.load-found-requires
load-found-requires c = (search rules, search rules, settles_at _ _ _ c.self.inside.seat.me c.self.invariant.kernel)

pub returns-clause-settled : goal.returns-clause-settled
returns-clause-settled c =
    let P : KernelLists → Type 0 = λ k. AllHome k.devices k.home → IsSettled k.takes k.latches k.home (c.load-found.result % 65536) in
    (_, subst P c.self.view_is c.load-found.ensures.2.1 c.requires)

pub returns-clause-counts : goal.returns-clause-counts
returns-clause-counts c =
    let seat = c.self.inside.seat.me.0 in
    let home : AllHome seat.devices seat.deeds = subst (λ (k : KernelLists). AllHome k.devices k.home) (sym c.self.view_is) c.requires in
    let P : KernelLists → Type 0 = λ k. IsAudit record { raised = c.self.inside.raised.counts; joined = c.self.inside.joined.counts; taken = c.self.inside.taken.counts; pending = c.add_mask.new.self.counts } k.takes k.home in
    subst P c.self.view_is record {
      raised = c.self.invariant.raises;
      joined = c.self.invariant.joins;
      taken = c.self.invariant.takes;
      pending = pending_counts seat.takes seat.latches seat.deeds _ _ _ (c.load-found.ensures.2.1 home) c.none-pending.ensures c.add_mask.ensures;
    }

pub invariant_of-self : goal.invariant_of-self
invariant_of-self c = kernel_still _ c.self.inside.seat c.load-found.new.seat _ _ _ _ c.load-found.ensures.0 c.load-found.ensures.2.0 c.self.invariant
