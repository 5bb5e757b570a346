use Rattle.std.proofs.Common.{rules, arith, length}
use Rattle.tm_dump.proofs.Fronts.{words_more}
use Rattle.tm_dump.proofs.read.cursor.Cursor.words.Goals as goal

pub loop-index-preserved : goal.loop-index-preserved
loop-index-preserved c = record {
  read = words_more (length c.args.words.now) c.loop-index.index c.loop-index.words c.in_ok-words.field-0 _ _ _
      (omega (arith, c.loop-index-test.true, c.loop-index.auto.index-end)) c.loop-index.invariant.len c.loop-index.invariant.read c.in_ok-words.ensures;
  len = search rules;
}
