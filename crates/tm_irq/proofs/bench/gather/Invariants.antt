use Rattle.tm_irq.proofs.Gathering.{IsGathering}
use Rattle.tm_irq.proofs.bench.gather.Given as goal

abbrev pub invariant-loop-device : goal.invariant-loop-device
invariant-loop-device l = IsGathering l.fn.kernel l.fn.devices.items l.kernel l.devices.items

abbrev pub decreases-loop-device : goal.decreases-loop-device
decreases-loop-device l = goal.left-loop-device l
