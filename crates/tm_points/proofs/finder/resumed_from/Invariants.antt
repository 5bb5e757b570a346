use Rattle.std.proofs.Common.{◌≡◌}
use Rattle.tm_points.specs.Finder.{entries_from, resumed_in}
use Rattle.tm_points.proofs.finder.resumed_from.Given as goal

abbrev pub invariant-loop-later : goal.invariant-loop-later
invariant-loop-later l = resumed_in (entries_from l.control l.later) l.task ≡ resumed_in (entries_from l.control l.number) l.task
