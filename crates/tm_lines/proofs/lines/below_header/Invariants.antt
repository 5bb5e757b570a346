use Rattle.std.proofs.Common.{◌≡◌, ◌+◌, ◌≤◌, length}
use Rattle.tm_lines.specs.Lines.{pieces, header, from_header}
use Rattle.tm_lines.proofs.lines.below_header.Given as goal

abbrev pub invariant-loop-line : goal.invariant-loop-line
invariant-loop-line l =
    (from_header (header l.name l.version) l.number (pieces l.left) ≡ from_header (header l.fn.name l.fn.version) 1 (pieces l.fn.text))
    × (l.number + length l.left ≤ length l.fn.text + 1)

abbrev pub decreases-loop-line : goal.decreases-loop-line
decreases-loop-line l = length l.left
