use Rattle.tm_fidelity.proofs.Accepting.{finder_is_right, scripts_are_found}
use Rattle.tm_fidelity.proofs.Refusing.{refusals_name_dropped}
use Rattle.tm_fidelity.proofs.finding.finder_is_right.Goals as goal

pub returns-clause-accepts : goal.returns-clause-accepts
returns-clause-accepts c = finder_is_right

pub returns-clause-scripts : goal.returns-clause-scripts
returns-clause-scripts c = scripts_are_found

pub returns-clause-refuses : goal.returns-clause-refuses
returns-clause-refuses c = refusals_name_dropped
