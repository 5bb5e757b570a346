use Rattle.std.proofs.Common.{◌≡◌, ◌<◌, length, subst, slice_set, arith, inl, inr, if◌then◌else◌, ◌==◌}
use Rattle.tm_services.specs.declared.status.TheConstants.{E_OK}
use Rattle.tm_kernel.specs.Mailboxes.{MailboxesView, boxes_of, put_last}
use Rattle.tm_kernel.proofs.Boxes.{sent_where_room}
use Rattle.tm_kernel.proofs.mailbox.Mailboxes.send.Goals as goal
use Rattle.tm_kernel.proofs.mailbox.Mailboxes.send.Goals.{then-push, else-push}

pub returns-clause-sent : goal.returns-clause-sent
returns-clause-sent c =
    let within : c.args.to < length c.self.inside.boxes.items = omega arith in
    let step = sent_where_room c.self.inside.boxes.items c.args.to c.index_mut.result.now c.push.new.self c.args.message c.push.result c.if-push.result
    within c.index_mut.ensures.value c.push.ensures.pushed in
    subst (λ (v : MailboxesView). boxes_of (slice_set c.self.inside.boxes.items c.args.to c.push.new.self) ≡
    (if c.if-push.result == E_OK then record v { messages = put_last v.messages c.args.to c.args.message } else v))
    c.self.view_is
    (elim c.if-push.branch [
      | then-push w ↦ step (inl (w.if-push.true, w.result-is))
      | else-push w ↦ step (inr (w.if-push.false, w.result-is))
    ])
