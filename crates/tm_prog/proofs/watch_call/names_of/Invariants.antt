use Rattle.std.proofs.Common.{◌≡◌, map}
use Rattle.std.specs.List.{range_with_len}
use Rattle.tm_prog.specs.WatchCommand.{observer_name}
use Rattle.tm_prog.proofs.watch_call.names_of.Given as goal

abbrev pub invariant-loop-number : goal.invariant-loop-number
invariant-loop-number l = l.names.items ≡ map (observer_name l.fn.prefix) (range_with_len 0 l.number-counter)
