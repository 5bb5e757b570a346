use Rattle.std.proofs.Common.{◌≡◌, drop}
use Rattle.std.specs.List.{list_all}
use Rattle.tm_dump.specs.Reading.{is_reached}
use Rattle.tm_dump.proofs.read.checkpoints.are_reached.Given as goal

abbrev pub invariant-loop-index : goal.invariant-loop-index
invariant-loop-index l =
    list_all (is_reached l.task l.total) (drop l.index l.control.items) ≡ list_all (is_reached l.task l.total) l.control.items
