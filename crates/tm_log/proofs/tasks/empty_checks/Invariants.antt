use Rattle.std.proofs.Common.{◌≡◌, [], map, take}
use Rattle.tm_check.specs.Checkpoint.{kept_checks}
use Rattle.tm_log.proofs.tasks.empty_checks.Given as goal

abbrev pub invariant-loop-size : goal.invariant-loop-size
invariant-loop-size l = l.checks.items ≡ map (λ size. kept_checks [] 0 l.cap size) (take l.size-index l.words)
