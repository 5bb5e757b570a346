use Rattle.std.proofs.Common.{◌≡◌, ◌≤◌, length}
use Rattle.tm_image_text.specs.Lines.{used}
use Rattle.tm_image_text.proofs.lines.used.Given as goal

abbrev pub invariant-loop-used : goal.invariant-loop-used
invariant-loop-used l = record {
  same : used l.used ≡ used l.words;
  few : length l.used ≤ length l.words;
}

abbrev pub decreases-loop-used : goal.decreases-loop-used
decreases-loop-used l = length l.used
