use Rattle.tm_points.proofs.Replayable.{needed, enough}
use Rattle.tm_points.proofs.laws.accepted_points_are_replayable.Goals as goal

pub returns-clause-needed : goal.returns-clause-needed
returns-clause-needed c = needed

pub returns-clause-enough : goal.returns-clause-enough
returns-clause-enough c = enough
