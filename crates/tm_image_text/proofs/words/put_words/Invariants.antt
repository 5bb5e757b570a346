use Rattle.std.proofs.Common.{◌≡◌, ◌++◌, map, flat_map, take}
use Rattle.tm_spelling.specs.Lines.{hex8}
use Rattle.tm_image_text.specs.Prefix.{Keeps}
use Rattle.tm_image_text.specs.Lines.{spaced}
use Rattle.tm_image_text.proofs.words.put_words.Given as goal

abbrev pub invariant-loop-word : goal.invariant-loop-word
invariant-loop-word l = record {
  written : l.into.items ≡ l.fn.into.items ++ flat_map spaced (map hex8 (take l.word-index l.words));
  keeps : Keeps l.fn.into.items l.into.items;
}
