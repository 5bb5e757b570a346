use Rattle.std.proofs.Common.{◌+◌, ◌<◌, ◌≤◌, length, set, ap, sym, ◌∙◌, subst, refl, arith}
use Rattle.tm_kernel.specs.Mailboxes.{MailboxView, MailboxesView, boxes_of}
use Rattle.tm_kernel.proofs.Boxes.{IsCopied, copied_capacity, copied_more, copied_all}
use Rattle.tm_kernel.proofs.mailbox.Mailboxes.copy_from.Goals as goal

pub loop-index-init : goal.loop-index-init
loop-index-init c = record {
  first = refl;
  capacities = ap (λ (v : MailboxesView). v.capacities) c.self.view_is ∙ c.requires ∙ sym (ap (λ (v : MailboxesView). v.capacities) c.other.view_is);
}

pub copy_from-requires : goal.copy_from-requires
copy_from-requires c =
    let within : c.loop-index.index < length c.other.inside.boxes.items = omega arith in
    copied_capacity c.loop-index.self-inside.boxes.items c.other.inside.boxes.items c.loop-index.index c.index_mut.result.now c.index.result.now
    c.loop-index.invariant within c.index_mut.ensures.value c.index.ensures

pub loop-index-preserved : goal.loop-index-preserved
loop-index-preserved c =
    let within : c.loop-index.index < length c.other.inside.boxes.items = omega arith in
    subst (λ (b : MailboxView). IsCopied (set c.loop-index.self-inside.boxes.items c.loop-index.index b) c.other.inside.boxes.items (c.loop-index.index + 1))
    (sym c.copy_from.ensures)
    (copied_more c.loop-index.self-inside.boxes.items c.other.inside.boxes.items c.loop-index.index c.index.result.now c.loop-index.invariant within c.index.ensures)

pub returns : goal.returns
returns c =
    let past : length c.other.inside.boxes.items ≤ c.loop-index.index = omega arith in
    ap boxes_of (copied_all c.loop-index.self-inside.boxes.items c.other.inside.boxes.items c.loop-index.index c.loop-index.invariant past) ∙ c.other.view_is
