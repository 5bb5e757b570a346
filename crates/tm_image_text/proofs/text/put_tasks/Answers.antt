use Rattle.std.proofs.Common.{List, All, subst, arith}
use Rattle.std.proofs.lemmas.List.{take_all}
use Rattle.tm_image.specs.Load.{Load}
use Rattle.tm_image_text.specs.Numbers.{IsOfWords}
use Rattle.tm_image_text.proofs.Written.{task_more, tasks_end, words_more}
use Rattle.tm_image_text.proofs.text.put_tasks.Goals as goal

pub loop-number-preserved : goal.loop-number-preserved
loop-number-preserved c =
    let put = c.in_ok-put_task.ensures in
    let so = c.loop-number.invariant in
    let task = rw (c.spec.ensures.value, c.from.ensures) at c.at-task.ensures in
    record {
      written = task_more c.args.image.now c.loop-number.number c.at-task.result _ _ _ c.spec.ensures.sound (omega arith) task put.ok so.written;
      keeps = λ start begins. put.keeps start (so.keeps start begins);
      narrow = words_more c.args.image.now c.loop-number.number (omega arith) so.narrow put.narrow;
    }

pub returns-clause-ok : goal.returns-clause-ok
returns-clause-ok c =
    tasks_end c.args.image.now c.loop-number.number _ _ c.tasks-number-end.ensures.sound (omega arith) c.loop-number.invariant.written

pub returns-clause-narrow : goal.returns-clause-narrow
returns-clause-narrow c =
    subst (λ (loads : List Load). All IsOfWords loads) (take_all c.loop-number.number c.args.image.now.loads (omega arith)) c.loop-number.invariant.narrow
