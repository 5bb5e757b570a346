use Rattle.tm_services.proofs.Summary.{empty_fields}
use Rattle.tm_services.proofs.ceilings.Ceilings.new.Goals as goal

pub invariant_of-result-2 : goal.invariant_of-result-2
invariant_of-result-2 c =
    empty_fields c.args.static_priority c.args.users c.ceilings_of.result c.args.resources
    c.ceilings_of.ensures.priorities c.ceilings_of.ensures.users c.requires c.ceilings_of.ensures.ceilings

pub returns-clause-sound : goal.returns-clause-sound
returns-clause-sound c = (invariant_of-result-2 c).0
