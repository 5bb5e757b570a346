use Rattle.tm_dump.proofs.Assembly.{reads_dumps}
use Rattle.tm_dump.proofs.laws.reads_are_dumps.Goals as goal

pub returns : goal.returns
returns c = reads_dumps
