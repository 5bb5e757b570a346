use Rattle.std.proofs.Common.{rules, ◌≡◌, subst}
use Rattle.tm_kernel.specs.State.{IsKernel}
use Rattle.tm_kernel.specs.Schedule.{arrived}
use Rattle.tm_kernel.proofs.Keeping.{arrived_keeps}
use Rattle.tm_kernel.proofs.kernel.Kernel.arrive.Goals as goal

pub returns-clause-sound : goal.returns-clause-sound
returns-clause-sound c =
    let was : IsKernel c.args.self.now = subst IsKernel c.self.view_is c.self.invariant.0 in
    let e : arrived c.args.self.now c.args.mask c.args.ports ≡ c.perform_raised.new.self = search rules in
    subst IsKernel e (arrived_keeps c.args.self.now c.args.mask c.args.ports was)
