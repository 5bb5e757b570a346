use Rattle.std.proofs.Common.{◌≡◌, ◌+◌, ◌++◌, map, flat_map}
use Rattle.tm_log.specs.Points.{entries_from}
use Rattle.tm_spelling.specs.Story.{block_text}
use Rattle.tm_spelling.specs.Tracks.{blocks_by}
use Rattle.tm_text.specs.Prefix.{Keeps}
use Rattle.tm_text.specs.Views.{track_view}
use Rattle.tm_text.specs.Written.{AreWritten}
use Rattle.tm_text.proofs.replay.put_blocks.Given as goal

abbrev pub invariant-loop-number : goal.invariant-loop-number
invariant-loop-number l = record {
  written :
      l.into.items ++ flat_map block_text (blocks_by (map track_view l.tracks) (l.number + 1) (entries_from l.control l.number)) ≡
      l.fn.into.items ++ flat_map block_text (blocks_by (map track_view l.tracks) (l.fn.from + 1) (entries_from l.control l.fn.from));
  keeps : Keeps l.fn.into.items l.into.items;
  before : AreWritten l.tracks l.places (l.number + 1);
}
