use Rattle.tm_irq.proofs.Balance.{lines_balance, one_is_fresh}
use Rattle.tm_irq.proofs.Settling.{home_is_all}
use Rattle.tm_irq.proofs.laws.lines_balance.Goals as goal

pub returns : goal.returns
returns c = record { balance = lines_balance; one = one_is_fresh; home = home_is_all }
