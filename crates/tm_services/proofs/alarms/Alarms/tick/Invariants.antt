use Rattle.std.proofs.Common.{not}
use Rattle.std.specs.List.{count_by}
use Rattle.tm_services.proofs.Ticking.{IsTicking}
use Rattle.tm_services.proofs.alarms.Alarms.tick.Given as goal

abbrev pub invariant-loop-entry : goal.invariant-loop-entry
invariant-loop-entry l = IsTicking l.fn.self l.self-inside.counter l.self-inside.number l.self-inside.waiting l.due

abbrev pub decreases-loop-entry : goal.decreases-loop-entry
decreases-loop-entry l = count_by (λ b. not b) l.due
