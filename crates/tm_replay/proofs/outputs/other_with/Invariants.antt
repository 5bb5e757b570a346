use Rattle.std.proofs.Common.{◌≡◌, ◌-◌, drop}
use Rattle.tm_system.specs.Replaying.{shown_with}
use Rattle.tm_text.specs.Views.{view_of}
use Rattle.tm_replay.specs.Comparing.{others_from}
use Rattle.tm_replay.proofs.outputs.other_with.Given as goal

abbrev pub invariant-loop-index : goal.invariant-loop-index
invariant-loop-index l =
    others_from l.logged (l.left - l.index) (shown_with l.seq (view_of l.seen) (drop l.index l.outputs)) ≡
    others_from l.logged l.left (shown_with l.seq (view_of l.seen) l.outputs)
