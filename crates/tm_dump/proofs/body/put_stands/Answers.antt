use Rattle.std.proofs.Common.{◌≤◌, length, arith}
use Rattle.std.specs.List.{zip}
use Rattle.std.proofs.lemmas.Slice.Zip.{length-zip}
use Rattle.tm_dump.specs.Dump.{stand_bytes}
use Rattle.tm_dump.proofs.Writing.{lacks_next, gains_end, slice_get-zip}
use Rattle.tm_dump.proofs.body.put_stands.Goals as goal

pub loop-task-preserved : goal.loop-task-preserved
loop-task-preserved c = record {
  written = lacks_next stand_bytes (zip c.args.tail.now.at c.args.tail.now.state) c.loop-task.task (c.at.result, c.at-in-loop-task.result) _ _ _ _
      (slice_get-zip c.args.tail.now.at c.args.tail.now.state c.loop-task.task c.at.result c.at-in-loop-task.result c.at.ensures c.at-in-loop-task.ensures)
      c.loop-task.invariant.written c.put_stand.ensures.gains;
  len = omega arith;
}

pub returns-clause-gains : goal.returns-clause-gains
returns-clause-gains c =
    let past : length (zip c.args.tail.now.at c.args.tail.now.state) ≤ c.loop-task.task =
    omega (arith, length-zip c.args.tail.now.at c.args.tail.now.state) in
    gains_end stand_bytes (zip c.args.tail.now.at c.args.tail.now.state) c.loop-task.task _ _ past c.loop-task.invariant.written
