use Rattle.std.proofs.Common.{◌≤◌, length, arith, ap, ◌∙◌}
use Rattle.std.specs.Prelude.{sum_by}
use Rattle.std.specs.List.{zip}
use Rattle.std.proofs.lemmas.List.{take_all}
use Rattle.std.proofs.lemmas.Slice.Zip.{length-zip}
use Rattle.tm_log.specs.Window.{task_bound}
use Rattle.tm_dump.specs.Room.{task_room}
use Rattle.tm_dump.proofs.Bounds.{is_task_of, is_within, bound_of_task}
use Rattle.tm_dump.proofs.Writing.{slice_get-zip, sum_taken}
use Rattle.tm_dump.proofs.length.tasks_length.Goals as goal

pub task_length-length-requires-clause-words : goal.task_length-length-requires-clause-words
task_length-length-requires-clause-words c =
    let w = c.args.window.now in
    let window = c.tasks-task-end.ensures.window in
    (is_within w c.loop-task.task c.log.result.now c.checks.result.now window
    (is_task_of w c.loop-task.task c.log.result.now c.checks.result.now window c.log.ensures.there c.checks.ensures.there)).words

pub loop-task-preserved : goal.loop-task-preserved
loop-task-preserved c =
    let w = c.args.window.now in
    let i = c.loop-task.task in
    let log = c.log.result.now in
    let checks = c.checks.result.now in
    let is = is_task_of w i log checks c.tasks-task-end.ensures.window c.log.ensures.there c.checks.ensures.there in
    record {
      room = omega (
        arith,
        c.loop-task.invariant.room,
        c.task_length-length.ensures.room,
        sum_taken task_room (zip w.logs w.checks) i (log, checks) (slice_get-zip w.logs w.checks i log checks c.log.ensures.there c.checks.ensures.there),
      );
      few = omega (arith, c.loop-task.invariant.few, c.task_length-length.ensures.few);
      bound = omega (
        arith,
        c.loop-task.invariant.bound,
        c.task_length-length.ensures.bound,
        bound_of_task w i log checks is,
        sum_taken (task_bound w.shape.caps) w.shape.words i checks.words is.words,
      );
    }

pub returns-clause-room : goal.returns-clause-room
returns-clause-room c =
    let w = c.args.window.now in
    let past : length (zip w.logs w.checks) ≤ c.loop-task.task = omega (arith, length-zip w.logs w.checks) in
    c.loop-task.invariant.room ∙ ap (sum_by task_room) (take_all c.loop-task.task (zip w.logs w.checks) past)
