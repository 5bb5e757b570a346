use Rattle.tm_image_text.proofs.Widths.{read_fits}
use Rattle.tm_image_text.proofs.laws.read_images_fit.Goals as goal

pub returns : goal.returns
returns c = read_fits
