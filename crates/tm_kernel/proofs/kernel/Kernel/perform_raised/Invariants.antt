use Rattle.std.proofs.Common.{◌≡◌, drop}
use Rattle.tm_kernel.proofs.Raising.{performed_from}
use Rattle.tm_kernel.proofs.kernel.Kernel.perform_raised.Given as goal

abbrev pub invariant-loop-line : goal.invariant-loop-line
invariant-loop-line l =
    performed_from l.fn.self l.mask 0 l.lines ≡ performed_from l.self l.mask l.line (drop l.line l.lines)
