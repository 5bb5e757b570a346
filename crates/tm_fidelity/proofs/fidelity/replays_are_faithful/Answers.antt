use Rattle.tm_fidelity.proofs.Closing.{replays_are_faithful, whole_runs_replay}
use Rattle.tm_fidelity.proofs.fidelity.replays_are_faithful.Goals as goal

pub returns-clause-replays : goal.returns-clause-replays
returns-clause-replays c = replays_are_faithful

pub returns-clause-whole : goal.returns-clause-whole
returns-clause-whole c = whole_runs_replay
