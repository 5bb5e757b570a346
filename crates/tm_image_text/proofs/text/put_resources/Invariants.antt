use Rattle.std.proofs.Common.{◌≡◌, ◌++◌, drop}
use Rattle.tm_image_text.specs.Prefix.{Keeps}
use Rattle.tm_image_text.specs.Lines.{resource_line}
use Rattle.tm_image_text.specs.ImageText.{numbered}
use Rattle.tm_image_text.proofs.text.put_resources.Given as goal

abbrev pub invariant-loop-number : goal.invariant-loop-number
invariant-loop-number l = record {
  written :
      l.into.items ++ numbered resource_line l.number (drop l.number l.users) ≡
      l.fn.into.items ++ numbered resource_line 0 l.users;
  keeps : Keeps l.fn.into.items l.into.items;
}
