use Rattle.tm_plant.specs.Plant.{plant_line}
use Rattle.tm_lines.proofs.First.{first_told, first_gives}
use Rattle.tm_plant.proofs.laws.plant_faults_are_first.Goals as goal

pub returns-clause-told : goal.returns-clause-told
returns-clause-told c = λ number start lines fault e. first_told plant_line number start lines fault e

pub returns-clause-gives : goal.returns-clause-gives
returns-clause-gives c = λ number start lines fault first. first_gives plant_line number start lines fault first
