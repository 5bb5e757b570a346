use Rattle.std.proofs.Common.{◌+◌, ◌*◌}
use Rattle.tm_workers.proofs.workers.+fn-tracks_by-join+arg2+fn-tracks_by-join+arg3+tracks_by.Given as goal

abbrev pub decreases-join+arg2 : goal.decreases-join+arg2
decreases-join+arg2 g l = 2 * l.low.workers + 1

abbrev pub decreases-join+arg3 : goal.decreases-join+arg3
decreases-join+arg3 g l = 2 * l.high.workers + 1

abbrev pub decreases-tracks_by : goal.decreases-tracks_by
decreases-tracks_by g l = 2 * l.share.workers
