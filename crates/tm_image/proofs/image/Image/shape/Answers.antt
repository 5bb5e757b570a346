use Rattle.tm_image.proofs.Wholes.{shape_is}
use Rattle.tm_image.proofs.image.Image.shape.Goals as goal

pub returns-clause-sound : goal.returns-clause-sound
returns-clause-sound c = rw (← c.self.view_is) (shape_is _ c.self.invariant.0)
