use Rattle.tm_elf.proofs.Apart.{loads_apart}
use Rattle.tm_elf.proofs.laws.loads_are_apart.Goals as goal

pub returns : goal.returns
returns c = loads_apart
