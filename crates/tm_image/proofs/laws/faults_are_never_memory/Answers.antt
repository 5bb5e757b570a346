use Rattle.tm_image.proofs.Calm.{plan_never, image_never}
use Rattle.tm_image.proofs.laws.faults_are_never_memory.Goals as goal

pub returns-clause-plan : goal.returns-clause-plan
returns-clause-plan c = plan_never

pub returns-clause-image : goal.returns-clause-image
returns-clause-image c = image_never
