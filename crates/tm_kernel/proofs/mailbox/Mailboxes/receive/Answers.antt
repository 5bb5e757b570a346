use Rattle.std.proofs.Common.{◌≡◌, ◌<◌, length, subst, slice_get, slice_set, arith}
use Rattle.tm_kernel.specs.Mailboxes.{MailboxesView, boxes_of, without_first}
use Rattle.tm_kernel.proofs.Boxes.{received}
use Rattle.tm_kernel.proofs.mailbox.Mailboxes.receive.Goals as goal

pub returns-clause-taken : goal.returns-clause-taken
returns-clause-taken c =
    let within : c.args.from < length c.self.inside.boxes.items = omega arith in
    subst (λ (v : MailboxesView). boxes_of (slice_set c.self.inside.boxes.items c.args.from c.pop.new.self) ≡ record { messages = without_first v.messages c.args.from (slice_get v.messages c.args.from); capacities = v.capacities })
    c.self.view_is
    (received c.self.inside.boxes.items c.args.from c.index_mut.result.now c.pop.new.self within c.index_mut.ensures.value c.pop.ensures.rest)
