use Rattle.tm_kernel.proofs.Boxes.{IsCopied}
use Rattle.tm_kernel.proofs.mailbox.Mailboxes.copy_from.Given as goal

abbrev pub invariant-loop-index : goal.invariant-loop-index
invariant-loop-index l = IsCopied l.self-inside.boxes.items l.other-inside.boxes.items l.index
