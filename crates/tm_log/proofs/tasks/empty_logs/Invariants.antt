use Rattle.std.proofs.Common.{◌≡◌, [], replicate}
use Rattle.tm_ring.specs.Kept.{kept}
use Rattle.tm_log.proofs.tasks.empty_logs.Given as goal

abbrev pub invariant-loop : goal.invariant-loop
invariant-loop l = l.logs.items ≡ replicate l.counter (kept [] 0 l.cap)
