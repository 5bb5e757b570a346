use Rattle.tm_dump.proofs.Most.{dumps_bounded}
use Rattle.tm_dump.proofs.laws.dumps_are_bounded.Goals as goal

pub returns : goal.returns
returns c = dumps_bounded
