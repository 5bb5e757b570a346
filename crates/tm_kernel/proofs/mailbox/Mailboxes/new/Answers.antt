use Rattle.std.proofs.Common.{◌≤◌, length, arith}
use Rattle.tm_kernel.proofs.Boxes.{empty_boxes_of}
use Rattle.tm_kernel.proofs.mailbox.Mailboxes.new.Goals as goal

pub returns : goal.returns
returns c =
    let all : length c.args.capacities.now ≤ c.loop-capacity.capacity-index = omega arith in
    empty_boxes_of c.args.capacities.now c.loop-capacity.boxes.items c.loop-capacity.capacity-index c.loop-capacity.invariant all
