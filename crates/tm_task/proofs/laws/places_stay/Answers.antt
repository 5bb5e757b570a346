use Rattle.tm_task.proofs.Rising.{places_stay_lem}
use Rattle.tm_task.proofs.laws.places_stay.Goals as goal

pub returns : goal.returns
returns c = places_stay_lem
