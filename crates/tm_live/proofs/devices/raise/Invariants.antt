use Rattle.std.proofs.Common.{[], replicate}
use Rattle.tm_live.specs.Devices.{Played}
use Rattle.tm_live.proofs.devices.raise.Given as goal

abbrev pub invariant-loop : goal.invariant-loop
invariant-loop g l = Played (replicate l.counter l.line) [] l.fn.device l.device
