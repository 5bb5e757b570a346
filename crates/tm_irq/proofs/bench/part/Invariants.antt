use Rattle.tm_irq.proofs.Gathering.{IsParting}
use Rattle.tm_irq.proofs.bench.part.Given as goal

abbrev pub invariant-loop : goal.invariant-loop
invariant-loop l = IsParting l.fn.kernel l.devices l.counter l.kernel l.seats.items
