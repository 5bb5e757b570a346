use Rattle.std.proofs.Common.{◌≡◌, ◌++◌, map, flat_map, take}
use Rattle.tm_spelling.specs.Story.{start_view_text}
use Rattle.tm_text.specs.Prefix.{Keeps}
use Rattle.tm_text.specs.Views.{view_of}
use Rattle.tm_text.proofs.write.put_start_views.Given as goal

abbrev pub invariant-loop-task : goal.invariant-loop-task
invariant-loop-task l = record {
  written :
      l.into.items ≡ l.fn.into.items ++ flat_map start_view_text (map view_of (take l.task-index l.seen));
  keeps : Keeps l.fn.into.items l.into.items;
}
