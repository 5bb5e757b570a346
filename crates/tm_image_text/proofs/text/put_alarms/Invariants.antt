use Rattle.std.proofs.Common.{◌≡◌, ◌++◌, drop, take, All}
use Rattle.tm_image_text.specs.Prefix.{Keeps}
use Rattle.tm_image_text.specs.Lines.{alarm_line}
use Rattle.tm_image_text.specs.Numbers.{IsNarrow}
use Rattle.tm_image_text.specs.ImageText.{numbered}
use Rattle.tm_image_text.proofs.text.put_alarms.Given as goal

abbrev pub invariant-loop-number : goal.invariant-loop-number
invariant-loop-number l = record {
  written :
      l.into.items ++ numbered alarm_line l.number (drop l.number l.alarms) ≡
      l.fn.into.items ++ numbered alarm_line 0 l.alarms;
  keeps : Keeps l.fn.into.items l.into.items;
  narrow : All IsNarrow (take l.number l.alarms);
}
