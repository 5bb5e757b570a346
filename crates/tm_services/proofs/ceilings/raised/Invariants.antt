use Rattle.std.proofs.Common.{◌≡◌, max, fold, map, take, slice_index}
use Rattle.tm_services.proofs.ceilings.raised.Given as goal

abbrev pub invariant-loop-res : goal.invariant-loop-res
invariant-loop-res l =
    l.greatest ≡ fold max l.priority (map (slice_index l.ceilings) (take l.res-index l.resources))
