use Rattle.std.proofs.Common.{◌≡◌, ◌++◌, drop, take, All}
use Rattle.tm_image_text.specs.Prefix.{Keeps}
use Rattle.tm_image_text.specs.Lines.{action_line}
use Rattle.tm_image_text.specs.Numbers.{IsNarrow}
use Rattle.tm_image_text.specs.ImageText.{numbered}
use Rattle.tm_image_text.proofs.text.put_actions.Given as goal

abbrev pub invariant-loop-number : goal.invariant-loop-number
invariant-loop-number l = record {
  written :
      l.into.items ++ numbered action_line l.number (drop l.number l.lines) ≡
      l.fn.into.items ++ numbered action_line 0 l.lines;
  keeps : Keeps l.fn.into.items l.into.items;
  narrow : All IsNarrow (take l.number l.lines);
}
