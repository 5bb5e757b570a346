use Rattle.std.proofs.Common.{◌≡◌, ◌≤◌, length, drop}
use Rattle.tm_replay.specs.Comparing.{others_from, shown_ends}
use Rattle.tm_replay.proofs.outputs.other_last.Given as goal

abbrev pub invariant-loop-track : goal.invariant-loop-track
invariant-loop-track l = record {
  same :
      others_from l.logged l.left (shown_ends l.seq l.running (drop l.track-index l.tracks)) ≡
      others_from l.logged l.fn.left (shown_ends l.seq l.running l.tracks);
  some : length (shown_ends l.seq l.running (drop l.track-index l.tracks)) ≤ l.left;
}
