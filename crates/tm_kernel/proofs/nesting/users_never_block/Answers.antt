use Rattle.tm_kernel.proofs.NestedLeaders.{users_never_block}
use Rattle.tm_kernel.proofs.NestedRefusals.{refused_users_hold}
use Rattle.tm_kernel.proofs.nesting.users_never_block.Goals as goal

pub returns : goal.returns
returns c = record { others = users_never_block; refused = refused_users_hold }
