use Rattle.tm_observe.specs.Published.{PublishedSlices}
use Rattle.tm_observe.proofs.publishing.publish_slices.Given as goal

abbrev pub invariant-loop : goal.invariant-loop
invariant-loop g l = PublishedSlices l.counter l.pace.len l.fn.kernel l.kernel l.fn.tape l.tape l.fn.watch l.watch
