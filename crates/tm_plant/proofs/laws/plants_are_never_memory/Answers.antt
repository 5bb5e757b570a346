use Rattle.tm_plant.proofs.Calm.{plant_never}
use Rattle.tm_plant.proofs.laws.plants_are_never_memory.Goals as goal

pub returns : goal.returns
returns c = plant_never
