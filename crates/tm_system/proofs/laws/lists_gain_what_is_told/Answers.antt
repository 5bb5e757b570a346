use Rattle.tm_system.proofs.Gaining.{turns_gain, arrivals_gain}
use Rattle.tm_system.proofs.laws.lists_gain_what_is_told.Goals as goal

pub returns-clause-turns : goal.returns-clause-turns
returns-clause-turns c = turns_gain

pub returns-clause-arrivals : goal.returns-clause-arrivals
returns-clause-arrivals c = arrivals_gain
