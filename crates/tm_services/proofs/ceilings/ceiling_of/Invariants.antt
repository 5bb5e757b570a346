use Rattle.std.proofs.Common.{◌≡◌, max, drop, fold}
use Rattle.tm_services.specs.Ceilings.{user_priorities}
use Rattle.tm_services.proofs.ceilings.ceiling_of.Given as goal

abbrev pub invariant-loop-task : goal.invariant-loop-task
invariant-loop-task l =
    fold max 0 (user_priorities l.mask 0 l.priorities)
    ≡ fold max l.ceiling (user_priorities l.mask l.task (drop l.task l.priorities))
