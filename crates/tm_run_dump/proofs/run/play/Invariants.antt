use Rattle.std.proofs.Common.{◌≡◌, [], take}
use Rattle.tm_image.specs.Image.{ImageView}
use Rattle.tm_record.specs.StandsFor.{StandsFor}
use Rattle.tm_run_dump.proofs.run.play.Given as goal

abbrev pub invariant-loop-index : goal.invariant-loop-index
invariant-loop-index l = record {
  counted : l.recorder.slices ≡ l.index;
  stands : (image : ImageView) → StandsFor image l.fn.recorder [] → StandsFor image l.recorder (take l.index l.slices);
}
