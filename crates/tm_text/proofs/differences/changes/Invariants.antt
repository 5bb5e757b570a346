use Rattle.std.proofs.Common.{◌≡◌, ◌+◌, ◌*◌, ◌++◌, drop}
use Rattle.tm_spelling.specs.Story.{differences}
use Rattle.tm_text.proofs.differences.changes.Given as goal

abbrev pub invariant-loop-index : goal.invariant-loop-index
invariant-loop-index l =
    l.changed ++ differences (0x10000000 + 4 * l.index) (drop l.index l.before) (drop l.index l.now) ≡
    differences 0x10000000 l.before l.now
