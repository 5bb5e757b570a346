use Rattle.std.proofs.Common.{◌≡◌, ◌+◌, Some, arith, subst}
use Rattle.std.specs.Prelude.{option_and_then}
use Rattle.std.proofs.lemmas.Grind.{common_steps}
use Rattle.tm_check.specs.Checkpoint.{Checkpoint, place_in}
use Rattle.tm_dump.specs.Fields.{word_bytes}
use Rattle.tm_dump.proofs.Lengths.{data_at, length-word_bytes}
use Rattle.tm_dump.proofs.Writing.{lacks_next}
use Rattle.tm_dump.proofs.checkpoints.put_data.Goals as goal

pub loop-index-preserved : goal.loop-index-preserved
loop-index-preserved c = record {
  written = λ k is sized.
      lacks_next word_bytes k.body.words c.loop-index.index c.read.result _ _ _ _
      (data_at k.body c.loop-index.index c.read.result
      (subst (λ o. option_and_then (λ (k : Checkpoint). place_in k.body (32 + c.loop-index.index)) o ≡ Some c.read.result) is c.read.ensures))
      (c.loop-index.invariant.written k is sized) c.put_word.ensures;
  len = grind (arith, common_steps, length-word_bytes);
  capacity = omega arith;
}
