use Rattle.tm_points.proofs.Markers.{own_marker, other_marker}
use Rattle.tm_points.proofs.laws.markers_stand_in_entries.Goals as goal

pub returns-clause-resumed : goal.returns-clause-resumed
returns-clause-resumed c = own_marker

pub returns-clause-others : goal.returns-clause-others
returns-clause-others c = other_marker
