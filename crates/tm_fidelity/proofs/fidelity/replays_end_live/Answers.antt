use Rattle.tm_fidelity.proofs.Closing.{replays_end_live}
use Rattle.tm_fidelity.proofs.fidelity.replays_end_live.Goals as goal

pub returns : goal.returns
returns c = replays_end_live
