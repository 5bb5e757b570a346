use Rattle.std.proofs.Common.{◌≡◌, ◌+◌, ◌<◌, ◌^◌, length}
use Rattle.tm_lines.specs.Lines.{pieces, lines_on}
use Rattle.tm_lines.proofs.lines.take_lines.Given as goal

abbrev pub invariant-loop-line : goal.invariant-loop-line
invariant-loop-line g l =
    (lines_on g.F.Format.next l.number l.format (pieces l.left) ≡ lines_on g.F.Format.next l.fn.first l.fn.format (pieces l.fn.text))
    × (l.number + length l.left < 2 ^ 32)

abbrev pub decreases-loop-line : goal.decreases-loop-line
decreases-loop-line g l = length l.left
