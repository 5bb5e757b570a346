use Rattle.std.proofs.Common.{◌≡◌, ◌+◌, length}
use Rattle.tm_irq.proofs.tests.take_often.Given as goal

abbrev pub invariant-loop : goal.invariant-loop
invariant-loop l = record {
  takes : length l.kernel.takes ≡ length l.fn.kernel.takes + l.counter;
  table : l.kernel.table ≡ l.fn.kernel.table;
  devices : l.kernel.devices ≡ l.fn.kernel.devices;
  home : l.kernel.home ≡ l.fn.kernel.home;
}
