use Rattle.std.proofs.Common.{◌≡◌, ◌+◌, ◌≤◌, length}
use Rattle.tm_text.specs.Written.{AreWritten}
use Rattle.tm_replay.specs.Comparing.{others_from}
use Rattle.tm_replay.proofs.Showing.{shown_from}
use Rattle.tm_replay.proofs.outputs.other_under.Given as goal

abbrev pub invariant-loop-number : goal.invariant-loop-number
invariant-loop-number l = record {
  same :
      others_from l.logged l.left (shown_from l.tracks l.control l.number) ≡
      others_from l.logged l.fn.left (shown_from l.tracks l.control l.fn.from);
  some : length (shown_from l.tracks l.control l.number) ≤ l.left;
  written : AreWritten l.tracks l.places (l.number + 1);
}
