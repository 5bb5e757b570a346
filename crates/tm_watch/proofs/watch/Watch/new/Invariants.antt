use Rattle.tm_watch.proofs.Seating.{AreSeated}
use Rattle.tm_watch.proofs.watch.Watch.new.Given as goal

abbrev pub invariant-loop : goal.invariant-loop
invariant-loop g l = AreSeated l.count l.counter l.initial.watch l.watch l.seats
