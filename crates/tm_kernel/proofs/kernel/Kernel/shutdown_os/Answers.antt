use Rattle.std.proofs.Common.{sym, ◌∙◌, subst}
use Rattle.tm_kernel.specs.State.{IsKernel}
use Rattle.tm_kernel.proofs.Answering.{somebody}
use Rattle.tm_kernel.proofs.kernel.Kernel.shutdown_os.Goals as goal

pub stop-requires : goal.stop-requires
stop-requires c = λ e. somebody c.args.self.now c.args.caller (subst IsKernel c.self.view_is c.self.invariant.0) c.requires (sym c.requires.runs ∙ e)
