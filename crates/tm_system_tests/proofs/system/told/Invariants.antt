use Rattle.std.proofs.Common.{◌≡◌}
use Rattle.tm_system_tests.proofs.system.told.Given as goal

abbrev pub invariant-loop : goal.invariant-loop
invariant-loop g l = l.machine.kernel.spec ≡ l.image.spec

abbrev pub invariant-loop-length : goal.invariant-loop-length
invariant-loop-length g l = l.machine.kernel.spec ≡ l.image.spec
