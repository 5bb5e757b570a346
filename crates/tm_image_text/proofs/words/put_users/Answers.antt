use Rattle.std.proofs.Common.{◌≡◌, ◌++◌, flat_map, map, decimal, ap, sym, ◌∙◌, arith}
use Rattle.tm_image_text.specs.Lines.{spaced}
use Rattle.tm_image_text.proofs.Users.{users_all, users_end, user_more, user_none}
use Rattle.tm_image_text.proofs.words.put_users.Goals as goal
use Rattle.tm_image_text.proofs.words.put_users.Goals.{then-mask-task-eq1+in_ok-put_number, else-mask-task-eq1}

pub loop-task-init : goal.loop-task-init
loop-task-init c = record {
  written = ap (λ users. c.args.into.now.items ++ flat_map spaced (map decimal users)) (users_all c.args.mask);
  keeps = λ start begins. begins;
}

pub loop-task-preserved : goal.loop-task-preserved
loop-task-preserved c =
    let so = c.loop-task.invariant in
    elim c.if-mask-task-eq1.branch [
      | then-mask-task-eq1+in_ok-put_number w ↦
          let put = w.in_ok-put_number.ensures in
          rw w.into-is (record {
            written = user_more c.args.mask c.loop-task.task _ _ _ (omega arith) w.if-mask-task-eq1.true put.ok so.written;
            keeps = λ start begins. put.keeps start (so.keeps start begins);
          })
      | else-mask-task-eq1 w ↦
          rw w.into-is (record {
            written = user_none c.args.mask c.loop-task.task _ _ (omega arith) w.if-mask-task-eq1.false so.written;
            keeps = so.keeps;
          })
    ]

pub returns-clause-ok : goal.returns-clause-ok
returns-clause-ok c = users_end c.args.mask c.loop-task.task _ _ (omega arith) c.loop-task.invariant.written
