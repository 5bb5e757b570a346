use Rattle.std.proofs.Common.{◌≡◌, ◌++◌, drop, take, zip, All}
use Rattle.tm_image_text.specs.Prefix.{Keeps}
use Rattle.tm_image_text.specs.Numbers.{IsOfWords}
use Rattle.tm_image_text.specs.ImageText.{numbered, task_text}
use Rattle.tm_image_text.proofs.text.put_tasks.Given as goal

abbrev pub invariant-loop-number : goal.invariant-loop-number
invariant-loop-number l = record {
  written :
      l.into.items ++ numbered task_text l.number (drop l.number (zip l.image.spec.tasks l.image.loads)) ≡
      l.fn.into.items ++ numbered task_text 0 (zip l.image.spec.tasks l.image.loads);
  keeps : Keeps l.fn.into.items l.into.items;
  narrow : All IsOfWords (take l.number l.image.loads);
}
