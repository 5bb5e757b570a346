use Rattle.tm_irq.proofs.Gathering.{new_seats, new_idle, new_lists}
use Rattle.tm_irq.proofs.bench.Bench.new.Goals as goal

pub invariant_of-result : goal.invariant_of-result
invariant_of-result c = record { kept = new_seats c.in_ok-kernel.kernel c.args.devices c.in_ok-seats.seats.items c.in_ok-seats.ensures.seats c.part.new.kernel c.in_ok-seats.ensures.kernel c.in_ok-kernel.ensures.0 c.requires.some c.requires.few }

pub returns-clause-devices : goal.returns-clause-devices
returns-clause-devices c = new_idle c.in_ok-kernel.kernel c.args.devices c.in_ok-seats.seats.items c.in_ok-seats.ensures.seats

pub returns-clause-lists : goal.returns-clause-lists
returns-clause-lists c =
    let made = c.in_ok-kernel.ensures in
    new_lists c.in_ok-kernel.kernel c.part.new.kernel c.args.devices c.in_ok-seats.seats.items c.in_ok-seats.ensures.seats c.in_ok-seats.ensures.kernel made.1 made.2
