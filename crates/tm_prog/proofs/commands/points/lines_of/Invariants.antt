use Rattle.std.proofs.Common.{◌≡◌, take}
use Rattle.std.specs.List.{flat_map}
use Rattle.tm_prog.specs.PointsCommand.{point_line}
use Rattle.tm_prog.proofs.commands.points.lines_of.Given as goal

abbrev pub invariant-loop-point : goal.invariant-loop-point
invariant-loop-point l = l.text.items ≡ flat_map point_line (take l.point-index l.points)
