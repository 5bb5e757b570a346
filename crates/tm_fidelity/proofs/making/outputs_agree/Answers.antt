use Rattle.tm_fidelity.proofs.Agreeing.{outputs_agree}
use Rattle.tm_fidelity.proofs.making.outputs_agree.Goals as goal

pub returns : goal.returns
returns c = outputs_agree
