use Rattle.std.proofs.Common.{slice_index}
use Rattle.tm_irq.proofs.Tallying.{GainsBelow}
use Rattle.tm_irq.proofs.tally.Tally.add_all.Given as goal

abbrev pub invariant-loop-line : goal.invariant-loop-line
invariant-loop-line l = GainsBelow l.line l.fn.self.counts l.self.counts (λ line. slice_index l.other.counts line)
