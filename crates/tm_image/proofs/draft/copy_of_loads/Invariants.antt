use Rattle.std.proofs.Common.{◌≡◌, take}
use Rattle.tm_image.proofs.draft.copy_of_loads.Given as goal

abbrev pub invariant-loop-load : goal.invariant-loop-load
invariant-loop-load l = l.copy.items ≡ take l.load-index l.loads
