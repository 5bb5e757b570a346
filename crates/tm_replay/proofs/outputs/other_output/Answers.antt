use Rattle.std.proofs.Common.{ap, sym, ◌∙◌, arith}
use Rattle.tm_replay.proofs.Passing.{of_window, answer_first, answer_second}
use Rattle.tm_replay.proofs.outputs.other_output.Goals as goal

pub returns-in-Some : goal.returns-in-Some
returns-in-Some c =
    answer_first _ _ c.in-Some.other _ (sym c.other_under.ensures ∙ c.in-Some.is)
    (of_window c.args.replay.now c.args.window.now c.as_slice-tracks.result.now c.control-control.result.now c.outputs-logged.result.now
    c.total-end.result c.tail.result.now.running c.made_under.result c.made_last-last.result
    c.as_slice-tracks.ensures c.control-control.ensures c.outputs-logged.ensures (c.total-end.ensures.total ∙ ap (λ x. x.total) c.control-control.ensures)
    (ap (λ x. x.running) c.tail.ensures) c.made_under.ensures.made c.made_last-last.ensures.made (omega arith)
    (omega (arith, c.requires.tasks, c.tasks-tasks.ensures.window.state)))

pub returns : goal.returns
returns c =
    answer_second _ _ c.other_last.result _ (sym c.other_under.ensures ∙ c.in_default.is) c.other_last.ensures
    (of_window c.args.replay.now c.args.window.now c.as_slice-tracks.result.now c.control-control.result.now c.outputs-logged.result.now
    c.total-end.result c.tail.result.now.running c.made_under.result c.made_last-last.result
    c.as_slice-tracks.ensures c.control-control.ensures c.outputs-logged.ensures (c.total-end.ensures.total ∙ ap (λ x. x.total) c.control-control.ensures)
    (ap (λ x. x.running) c.tail.ensures) c.made_under.ensures.made c.made_last-last.ensures.made (omega arith)
    (omega (arith, c.requires.tasks, c.tasks-tasks.ensures.window.state)))
