use Rattle.std.proofs.Common.{◌≡◌, ◌++◌, drop}
use Rattle.tm_image_text.specs.Prefix.{Keeps}
use Rattle.tm_image_text.specs.Lines.{box_line}
use Rattle.tm_image_text.specs.ImageText.{numbered}
use Rattle.tm_image_text.proofs.text.put_boxes.Given as goal

abbrev pub invariant-loop-number : goal.invariant-loop-number
invariant-loop-number l = record {
  written :
      l.into.items ++ numbered box_line l.number (drop l.number l.boxes) ≡
      l.fn.into.items ++ numbered box_line 0 l.boxes;
  keeps : Keeps l.fn.into.items l.into.items;
}
