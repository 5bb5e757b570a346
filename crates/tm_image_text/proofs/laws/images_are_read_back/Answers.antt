use Rattle.tm_image_text.proofs.Back.{text_read, replaced_read}
use Rattle.tm_image_text.proofs.laws.images_are_read_back.Goals as goal

pub returns-clause-every : goal.returns-clause-every
returns-clause-every c = text_read

pub returns-clause-replaced : goal.returns-clause-replaced
returns-clause-replaced c = replaced_read
