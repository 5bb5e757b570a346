use Rattle.std.proofs.Common.{◌≡◌, length, arith, slice_get, if◌then◌else◌, ◌==◌, subst, List, ℕ}
use Rattle.tm_services.specs.declared.status.TheConstants.{E_OK}
use Rattle.tm_kernel.specs.Mailboxes.{send_status, put_last}
use Rattle.tm_kernel.specs.State.{KernelState}
use Rattle.tm_kernel.proofs.Keeping.{boxes_sent}
use Rattle.tm_kernel.proofs.kernel.Kernel.send.Goals as goal

pub invariant_of-self : goal.invariant_of-self
invariant_of-self c =
    let four : length c.args.message ≡ 4 = omega arith in
    let k : KernelState = record {
      spec = c.self.inside.spec;
      states = c.self.inside.states;
      events = c.self.inside.events;
      awaited = c.self.inside.awaited;
      ceilings = c.self.inside.ceilings;
      alarms = c.self.inside.alarms;
      boxes = c.self.inside.boxes.messages;
      ports = c.self.inside.ports;
      running = c.self.inside.running;
      ended = c.self.inside.ended;
    } in
    let status = subst (λ (cs : List ℕ). c.send-status.result ≡ send_status cs c.args.to (slice_get k.boxes c.args.to)) c.self.invariant.1 c.send-status.ensures.status in
    let sent = subst (λ (cs : List ℕ). c.send-status.new.self ≡ (if c.send-status.result == E_OK
    then record { messages = put_last k.boxes c.args.to c.args.message; capacities = cs }
    else record { messages = k.boxes; capacities = cs })) c.self.invariant.1 c.send-status.ensures.sent in
    boxes_sent k c.send-status.new.self c.args.to c.send-status.result c.args.message c.self.invariant.0 four status sent
