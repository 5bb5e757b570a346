use Rattle.std.proofs.Common.{refl}
use Rattle.std.specs.Fmt.{digits}
use Rattle.tm_spelling.specs.Lines.{hex8}
use Rattle.tm_image_text.specs.Lines.{task_line, text_line, data_line, users_of, resource_line, alarm_line, box_line, action_line, ring_line}
use Rattle.tm_image_text.specs.ImageText.{image_text}
use Rattle.tm_image_text.proofs.examples.text_examples.Goals as goal

pub returns-clause-one : goal.returns-clause-one
unfolding image_text task_line text_line data_line users_of resource_line alarm_line box_line action_line ring_line hex8 digits
returns-clause-one c = refl

pub returns-clause-product : goal.returns-clause-product
unfolding image_text task_line text_line data_line users_of resource_line alarm_line box_line action_line ring_line hex8 digits
returns-clause-product c = refl

pub returns-clause-every : goal.returns-clause-every
unfolding image_text task_line text_line data_line users_of resource_line alarm_line box_line action_line ring_line hex8 digits
returns-clause-every c = refl
