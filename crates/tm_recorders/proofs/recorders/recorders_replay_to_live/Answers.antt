use Rattle.tm_recorders.proofs.Living.{tails_are_live, checkpoints_are_live, points_are_live}
use Rattle.tm_recorders.proofs.recorders.recorders_replay_to_live.Goals as goal

pub returns-clause-tails : goal.returns-clause-tails
returns-clause-tails c = tails_are_live

pub returns-clause-checkpoints : goal.returns-clause-checkpoints
returns-clause-checkpoints c = checkpoints_are_live

pub returns-clause-points : goal.returns-clause-points
returns-clause-points c = points_are_live
