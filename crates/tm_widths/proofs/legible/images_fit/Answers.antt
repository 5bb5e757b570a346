use Rattle.tm_widths.proofs.Images.{images_fit}
use Rattle.tm_widths.proofs.legible.images_fit.Goals as goal

pub returns : goal.returns
returns c = images_fit
