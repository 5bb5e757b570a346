use Rattle.std.proofs.Common.{take}
use Rattle.tm_system.specs.Run.{run}
use Rattle.tm_system.specs.Hearing.{StandAt}
use Rattle.tm_prog.specs.Teller.{HasTold}
use Rattle.tm_prog.proofs.trace.trace.Given as goal

abbrev pub invariant-loop-index : goal.invariant-loop-index
invariant-loop-index l = StandAt HasTold l.image l.machine l.teller (run l.image (take l.index l.slices))
