use Rattle.std.proofs.Common.{◌≡◌, length, ap, sym, ◌∙◌, subst, arith}
use Rattle.tm_marker.specs.declared.entries.DataEntry.{DataEntry}
use Rattle.tm_kernel.specs.State.{IsKernel}
use Rattle.tm_kernel.proofs.Answering.{call_keeps, refusal_changes_nothing}
use Rattle.tm_kernel.proofs.NestedRefusals.{answered_users_hold}
use Rattle.tm_kernel.proofs.kernel.Kernel.call.Goals as goal

pub returns-clause-refused : goal.returns-clause-refused
returns-clause-refused c = λ ne.
    c.answer.ensures.kernel ∙ (refusal_changes_nothing c.args.self.now c.args.task c.args.service c.args.args
    (λ e. ne (ap (λ (e : DataEntry). e.status) c.answer.ensures.entry ∙ e))).0

pub returns-clause-users : goal.returns-clause-users
returns-clause-users c =
    answered_users_hold c.args.self.now c.args.task c.args.service c.args.args _
    (subst IsKernel c.self.view_is c.self.invariant.0) c.requires c.answer.ensures.entry

pub returns-clause-sound : goal.returns-clause-sound
returns-clause-sound c =
    let six : length c.args.args ≡ 6 = omega arith in
    subst IsKernel (sym c.answer.ensures.kernel) (call_keeps c.args.self.now c.args.task c.args.service c.args.args six
    (subst IsKernel c.self.view_is c.self.invariant.0) c.requires)
