use Rattle.std.proofs.Common.{rules, ◌≡◌, [], ◌∷◌, subst}
use Rattle.tm_kernel.specs.State.{KernelState, IsKernel, booted}
use Rattle.tm_kernel.proofs.Keeping.{booted_keeps}
use Rattle.tm_kernel.proofs.kernel.Kernel.new.Goals as goal

pub invariant_of-result : goal.invariant_of-result
invariant_of-result c =
    let made : KernelState = record {
      spec = c.in_ok-copied.field-0;
      states = c.from.result;
      events = c.from-2.result;
      awaited = c.from-3.result;
      ceilings = c.new.result;
      alarms = c.new-2.result;
      boxes = c.in_ok-new.field-0.messages;
      ports = 0 ∷ 0 ∷ 0 ∷ 0 ∷ [];
      running = 255;
      ended = 0;
    } in
    let e : booted c.args.spec.now ≡ made = search rules in
    let capacities : c.in_ok-new.field-0.capacities ≡ c.in_ok-copied.field-0.boxes = search rules in
    (subst IsKernel e (booted_keeps c.args.spec.now c.requires), capacities)

pub returns-clause-sound : goal.returns-clause-sound
returns-clause-sound c = (invariant_of-result c).0
