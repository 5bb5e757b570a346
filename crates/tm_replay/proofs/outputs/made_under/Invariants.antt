use Rattle.std.proofs.Common.{◌≡◌, ◌+◌, ◌-◌, ◌*◌, ◌^◌, ◌≤◌, max, length}
use Rattle.tm_text.specs.Written.{AreWritten}
use Rattle.tm_replay.proofs.Showing.{shown_from}
use Rattle.tm_replay.proofs.outputs.made_under.Given as goal

abbrev pub invariant-loop-number : goal.invariant-loop-number
invariant-loop-number l = record {
  made : l.made + length (shown_from l.tracks l.control l.number) ≡ length (shown_from l.tracks l.control l.fn.from);
  within : l.number ≤ max l.fn.from l.control.total;
  few : l.made ≤ (l.number - l.fn.from) * 2 ^ 64;
  written : AreWritten l.tracks l.places (l.number + 1);
}
