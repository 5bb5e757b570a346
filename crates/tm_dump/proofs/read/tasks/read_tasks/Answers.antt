use Rattle.std.proofs.Common.{length, rules}
use Rattle.tm_dump.specs.Reading.{tasks_in}
use Rattle.tm_dump.proofs.Fronts.{tasks_more, tasks_unless, of_more}
use Rattle.tm_dump.proofs.read.tasks.read_tasks.Goals as goal

pub returns-in_err-read-clause-read : goal.returns-in_err-read-clause-read
returns-in_err-read-clause-read c =
    let words = c.args.shape.now.words in
    let it = tasks_unless c.args.shape.now.caps c.args.control.now (length words) c.loop-task.task words c.at-size.result c.loop-task.logs.items c.loop-task.checks.items
    c.in_err-read.field-0.0 c.loop-task.at (tasks_in c.args.shape.now.caps c.args.control.now (length words) 0 words c.args.at.now)
    (search (rules, c.at-size.ensures)) c.loop-task.invariant.read (search (rules, c.in_err-read.ensures.read)) in
    search (rules, it)

pub loop-task-preserved : goal.loop-task-preserved
loop-task-preserved c =
    let words = c.args.shape.now.words in
    record {
      read = rw c.in_ok-push.ensures.items (rw c.in_ok-push-2.ensures.items (
          tasks_more c.args.shape.now.caps c.args.control.now (length words) c.loop-task.task words c.at-size.result c.loop-task.logs.items c.loop-task.checks.items
          c.in_ok-read.read.log c.in_ok-read.read.checks c.loop-task.at c.read_task.new.at (tasks_in c.args.shape.now.caps c.args.control.now (length words) 0 words c.args.at.now)
          (search (rules, c.at-size.ensures)) c.loop-task.invariant.read (search (rules, c.in_ok-read.ensures.read))));
      made = rw c.in_ok-push.ensures.items (rw c.in_ok-push-2.ensures.items (
          of_more c.args.shape.now.caps words c.loop-task.task c.at-size.result c.loop-task.logs.items c.loop-task.checks.items c.in_ok-read.read.log c.in_ok-read.read.checks
          (search (rules, c.at-size.ensures)) c.in_ok-read.ensures.log_cap c.in_ok-read.ensures.check_cap c.in_ok-read.ensures.words c.loop-task.invariant.made));
    }
