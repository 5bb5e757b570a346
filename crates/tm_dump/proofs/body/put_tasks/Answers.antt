use Rattle.std.proofs.Common.{◌≤◌, length, arith}
use Rattle.std.specs.List.{zip}
use Rattle.std.proofs.lemmas.Slice.Zip.{length-zip}
use Rattle.tm_dump.specs.Dump.{task_bytes}
use Rattle.tm_dump.specs.Room.{task_room}
use Rattle.tm_dump.proofs.Writing.{lacks_next, gains_end, slice_get-zip, sum_next}
use Rattle.tm_dump.proofs.body.put_tasks.Goals as goal

pub put_task-requires : goal.put_task-requires
put_task-requires c =
    let logs = c.args.window.now.logs in
    let checks = c.args.window.now.checks in
    let there = slice_get-zip logs checks c.loop-task.task c.log.result.now c.checks.result.now c.log.ensures.there c.checks.ensures.there in
    record {
      room = omega (
        arith,
        c.requires.room,
        c.loop-task.invariant.len,
        c.loop-task.invariant.written.capacity,
        sum_next task_room (zip logs checks) c.loop-task.task (c.log.result.now, c.checks.result.now) there,
      );
    }

pub loop-task-preserved : goal.loop-task-preserved
loop-task-preserved c =
    let logs = c.args.window.now.logs in
    let checks = c.args.window.now.checks in
    let there = slice_get-zip logs checks c.loop-task.task c.log.result.now c.checks.result.now c.log.ensures.there c.checks.ensures.there in
    record {
      written = lacks_next task_bytes (zip logs checks) c.loop-task.task (c.log.result.now, c.checks.result.now) _ _ _ _ there
          c.loop-task.invariant.written c.put_task.ensures.gains;
      len = omega (
        arith,
        c.loop-task.invariant.len,
        c.put_task.ensures.len,
        sum_next task_room (zip logs checks) c.loop-task.task (c.log.result.now, c.checks.result.now) there,
      );
    }

pub returns-clause-gains : goal.returns-clause-gains
returns-clause-gains c =
    let past : length (zip c.args.window.now.logs c.args.window.now.checks) ≤ c.loop-task.task =
    omega (arith, length-zip c.args.window.now.logs c.args.window.now.checks) in
    gains_end task_bytes (zip c.args.window.now.logs c.args.window.now.checks) c.loop-task.task _ _ past c.loop-task.invariant.written
