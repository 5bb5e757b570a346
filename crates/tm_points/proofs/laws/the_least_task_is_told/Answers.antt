use Rattle.std.proofs.Common.{length}
use Rattle.tm_points.specs.Finder.{lost_of_task}
use Rattle.tm_points.proofs.Least.{least_is}
use Rattle.tm_points.proofs.laws.the_least_task_is_told.Goals as goal

pub returns : goal.returns
returns c w point lost told = least_is (lost_of_task w point) (length w.shape.words) lost told
