use Rattle.tm_observe.specs.Lookers.{Looked}
use Rattle.tm_observe.proofs.looker.look_often.Given as goal

abbrev pub invariant-loop : goal.invariant-loop
invariant-loop g l = Looked l.counter l.fn.looker l.looker
