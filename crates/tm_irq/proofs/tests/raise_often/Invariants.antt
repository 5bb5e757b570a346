use Rattle.std.proofs.Common.{◌≡◌}
use Rattle.tm_irq.proofs.tests.raise_often.Given as goal

abbrev pub invariant-loop : goal.invariant-loop
invariant-loop l = record { table : l.device.table ≡ l.fn.device.table; device : l.device.device ≡ l.fn.device.device }
