use Rattle.std.proofs.Common.{ap, ◌∙◌}
use Rattle.tm_kernel.specs.State.{booted}
use Rattle.tm_kernel.specs.declared.spec.KernelSpec.{KernelSpec}
use Rattle.tm_system.proofs.Booting.{booted_at}
use Rattle.tm_system.proofs.machine.Machine.boot.Goals as goal

pub returns-clause-boot : goal.returns-clause-boot
returns-clause-boot c = booted_at c.args.image.now _
    (c.in_ok-kernel.ensures.boot ∙ ap (λ (s : KernelSpec). booted s) c.spec.ensures.value) c.in_ok-tasks.ensures
