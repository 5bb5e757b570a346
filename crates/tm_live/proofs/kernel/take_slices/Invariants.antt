use Rattle.tm_live.specs.Kernel.{TookSlices}
use Rattle.tm_live.proofs.kernel.take_slices.Given as goal

abbrev pub invariant-loop : goal.invariant-loop
invariant-loop g l = TookSlices l.counter l.len l.fn.kernel l.kernel l.fn.tape l.tape l.fn.recorder l.recorder
