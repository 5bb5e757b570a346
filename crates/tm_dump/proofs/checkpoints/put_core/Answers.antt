use Rattle.std.proofs.Common.{◌≡◌, ◌≤◌, Some, length, arith, subst}
use Rattle.std.specs.Prelude.{option_and_then}
use Rattle.std.proofs.lemmas.Grind.{common_steps}
use Rattle.tm_check.specs.Checkpoint.{Checkpoint, place_in}
use Rattle.tm_dump.specs.Fields.{word_bytes, core_words}
use Rattle.tm_dump.proofs.Lengths.{core_at, length-core_words, length-word_bytes}
use Rattle.tm_dump.proofs.Writing.{lacks_next, gains_end}
use Rattle.tm_dump.proofs.checkpoints.put_core.Goals as goal

pub loop-place-preserved : goal.loop-place-preserved
loop-place-preserved c = record {
  written = λ k is.
      lacks_next word_bytes (core_words k.body) c.loop-place.place c.read.result _ _ _ _
      (core_at k.body c.loop-place.place c.read.result (omega arith)
      (subst (λ o. option_and_then (λ (k : Checkpoint). place_in k.body c.loop-place.place) o ≡ Some c.read.result) is c.read.ensures))
      (c.loop-place.invariant.written k is) c.put_word.ensures;
  len = grind (arith, common_steps, length-word_bytes);
  capacity = omega arith;
}

pub returns-clause-gains : goal.returns-clause-gains
returns-clause-gains c = λ k is.
    let past : length (core_words k.body) ≤ c.loop-place.place = omega (arith, length-core_words k.body) in
    gains_end word_bytes (core_words k.body) c.loop-place.place _ _ past (c.loop-place.invariant.written k is)
