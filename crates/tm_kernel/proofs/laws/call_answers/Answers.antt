use Rattle.tm_kernel.proofs.Answering.{call_names_service, call_same_rest, call_goes_on, call_leaves, refusal_changes_nothing}
use Rattle.tm_kernel.proofs.laws.call_answers.Goals as goal

pub returns : goal.returns
returns c = record { service = call_names_service; rest = call_same_rest; goes_on = call_goes_on; leaves = call_leaves; refused = refusal_changes_nothing }
