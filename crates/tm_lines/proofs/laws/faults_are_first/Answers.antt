use Rattle.tm_lines.proofs.First.{first_told, first_gives}
use Rattle.tm_lines.proofs.laws.faults_are_first.Goals as goal

pub returns-clause-told : goal.returns-clause-told
returns-clause-told g c = λ number start lines fault e. first_told g.F.Format.next number start lines fault e

pub returns-clause-gives : goal.returns-clause-gives
returns-clause-gives g c = λ number start lines fault first. first_gives g.F.Format.next number start lines fault first
