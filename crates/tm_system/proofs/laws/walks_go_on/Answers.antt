use Rattle.tm_system.proofs.Walking.{walks_end, walks_go_on, walks_stick, walkers_stay}
use Rattle.tm_system.proofs.laws.walks_go_on.Goals as goal

pub returns-clause-end : goal.returns-clause-end
returns-clause-end c = walks_end

pub returns-clause-goes_on : goal.returns-clause-goes_on
returns-clause-goes_on c = walks_go_on

pub returns-clause-sticks : goal.returns-clause-sticks
returns-clause-sticks c = walks_stick

pub returns-clause-stays : goal.returns-clause-stays
returns-clause-stays c = walkers_stay
