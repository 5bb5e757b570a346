use Rattle.std.proofs.Common.{◌≡◌, slice_get, subst, List, ℕ}
use Rattle.tm_kernel.specs.Mailboxes.{without_first}
use Rattle.tm_kernel.specs.State.{KernelState}
use Rattle.tm_kernel.proofs.Keeping.{boxes_received}
use Rattle.tm_kernel.proofs.kernel.Kernel.receive.Goals as goal

pub invariant_of-self : goal.invariant_of-self
invariant_of-self c =
    let k : KernelState = record {
      spec = c.self.inside.spec;
      states = c.self.inside.states;
      events = c.self.inside.events;
      awaited = c.self.inside.awaited;
      ceilings = c.self.inside.ceilings;
      alarms = c.self.inside.alarms;
      boxes = c.self.inside.boxes.messages;
      ports = c.self.inside.ports;
      running = c.self.inside.running;
      ended = c.self.inside.ended;
    } in
    let taken = subst (λ (cs : List ℕ). c.receive.new.self ≡ record { messages = without_first k.boxes c.args.from (slice_get k.boxes c.args.from); capacities = cs })
    c.self.invariant.1 c.receive.ensures.taken in
    boxes_received k c.receive.new.self c.args.from c.self.invariant.0 taken
