use Rattle.std.proofs.Common.{◌≡◌, []}
use Rattle.tm_image.specs.Image.{ImageView}
use Rattle.tm_record.specs.StandsFor.{StandsFor}
use Rattle.tm_make.specs.Script.{number_after, slices_from}
use Rattle.tm_make.proofs.recorded.play.Given as goal

abbrev pub invariant-loop : goal.invariant-loop
invariant-loop l = record {
  last : l.last ≡ number_after l.fn.number l.counter;
  counted : l.recorder.slices ≡ l.counter;
  stands : (image : ImageView) → StandsFor image l.fn.recorder [] → StandsFor image l.recorder (slices_from l.fn.number l.counter);
}
