use Rattle.std.proofs.Common.{◌≡◌, ℕ, [], map, take}
use Rattle.tm_kernel.specs.Mailboxes.{MailboxView}
use Rattle.tm_kernel.proofs.mailbox.Mailboxes.new.Given as goal

abbrev pub empty_box : ℕ → MailboxView
empty_box capacity = record { messages = []; capacity = capacity }

abbrev pub invariant-loop-capacity : goal.invariant-loop-capacity
invariant-loop-capacity l = l.boxes.items ≡ map empty_box (take l.capacity-index l.capacities)
