use Rattle.std.proofs.Common.{◌≡◌, drop}
use Rattle.tm_kernel.specs.Schedule.{claims_from}
use Rattle.tm_kernel.proofs.Scan.{scanned, no_claim}
use Rattle.tm_kernel.proofs.kernel.claim.first_greatest.Given as goal

abbrev pub invariant-loop-task : goal.invariant-loop-task
invariant-loop-task l =
    scanned no_claim 255 0 (claims_from l.ceilings 0 l.states) ≡ scanned l.best l.picked l.task (claims_from l.ceilings l.task (drop l.task l.states))
