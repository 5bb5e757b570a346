use Rattle.tm_fidelity.proofs.Reading.{markers_are_of_points}
use Rattle.tm_fidelity.proofs.finding.markers_are_of_points.Goals as goal

pub returns : goal.returns
returns c = markers_are_of_points
