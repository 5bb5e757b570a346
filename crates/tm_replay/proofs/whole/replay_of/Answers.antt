use Rattle.std.proofs.Common.{ap, ◌∙◌}
use Rattle.tm_system.specs.Replaying.{runs_at_point}
use Rattle.tm_replay.proofs.Wholes.{entries_kept, replay_fits, replay_differs}
use Rattle.tm_replay.proofs.whole.replay_of.Goals as goal

pub other_output-requires-clause-kept : goal.other_output-requires-clause-kept
other_output-requires-clause-kept c = entries_kept c.args.window.now c.args.point c.requires.accepted

pub returns-in-Some-clause-answers : goal.returns-in-Some-clause-answers
returns-in-Some-clause-answers c image told = (
  c.requires.accepted,
  replay_differs image c.args.window.now (record { from = c.args.point; running = c.runs_at_point.result; tracks = c.args.tracks })
      c.in-Some.other told (c.runs_at_point.ensures ∙ ap (λ k. runs_at_point k c.args.point) c.control.ensures) c.in-Some.ensures,
)

pub returns-in-None-clause-answers : goal.returns-in-None-clause-answers
returns-in-None-clause-answers c image told =
    replay_fits image c.args.window.now (record { from = c.args.point; running = c.runs_at_point.result; tracks = c.args.tracks })
    c.requires.accepted told (c.runs_at_point.ensures ∙ ap (λ k. runs_at_point k c.args.point) c.control.ensures) c.in-None.ensures
