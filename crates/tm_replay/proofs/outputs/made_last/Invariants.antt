use Rattle.std.proofs.Common.{◌≡◌, ◌+◌, ◌*◌, ◌^◌, ◌≤◌, length, drop}
use Rattle.tm_replay.specs.Comparing.{shown_ends}
use Rattle.tm_replay.proofs.outputs.made_last.Given as goal

abbrev pub invariant-loop-track : goal.invariant-loop-track
invariant-loop-track l = record {
  made : l.made + length (shown_ends l.seq l.running (drop l.track-index l.tracks)) ≡ length (shown_ends l.seq l.running l.tracks);
  few : l.made ≤ l.track-index * 2 ^ 64;
}
