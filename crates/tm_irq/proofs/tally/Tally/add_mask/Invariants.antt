use Rattle.std.specs.Int.{bit_at}
use Rattle.tm_irq.proofs.Tallying.{GainsBelow}
use Rattle.tm_irq.proofs.tally.Tally.add_mask.Given as goal

abbrev pub invariant-loop-line : goal.invariant-loop-line
invariant-loop-line l = GainsBelow l.line l.fn.self.counts l.self.counts (λ line. bit_at l.mask line)
