use Rattle.std.proofs.Common.{◌≡◌}
use Rattle.tm_live.proofs.devices.hold.Given as goal

abbrev pub invariant-loop : goal.invariant-loop
invariant-loop g l = record {
  raises : l.device.raises ≡ l.fn.device.raises;
  stores : l.device.stores ≡ l.fn.device.stores;
  device : l.device.device ≡ l.fn.device.device;
  table : l.device.table ≡ l.fn.device.table;
}
