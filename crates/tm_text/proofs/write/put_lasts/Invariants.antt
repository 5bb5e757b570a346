use Rattle.std.proofs.Common.{◌≡◌, ◌++◌, flat_map, drop}
use Rattle.tm_spelling.specs.Story.{last_text}
use Rattle.tm_text.specs.Prefix.{Keeps}
use Rattle.tm_text.specs.Views.{lasts_of}
use Rattle.tm_text.proofs.write.put_lasts.Given as goal

abbrev pub invariant-loop-index : goal.invariant-loop-index
invariant-loop-index l = record {
  written :
      l.into.items ++ flat_map last_text (lasts_of l.running (drop l.index l.tracks) (drop l.index l.states)) ≡
      l.fn.into.items ++ flat_map last_text (lasts_of l.running l.tracks l.states);
  keeps : Keeps l.fn.into.items l.into.items;
}
