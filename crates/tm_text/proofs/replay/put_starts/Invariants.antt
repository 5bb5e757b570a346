use Rattle.std.proofs.Common.{◌≡◌, ◌++◌, map, flat_map, take}
use Rattle.tm_spelling.specs.Story.{start_view_text}
use Rattle.tm_text.specs.Prefix.{Keeps}
use Rattle.tm_text.specs.Views.{view_of}
use Rattle.tm_text.proofs.replay.put_starts.Given as goal

abbrev pub invariant-loop-track : goal.invariant-loop-track
invariant-loop-track l = record {
  written :
      l.into.items ≡ l.fn.into.items ++ flat_map start_view_text (map (λ track. view_of track.start) (take l.track-index l.tracks));
  keeps : Keeps l.fn.into.items l.into.items;
}
