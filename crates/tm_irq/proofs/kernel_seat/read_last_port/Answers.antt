use Rattle.std.proofs.Common.{arith}
use Rattle.tm_irq.proofs.Porting.{ends_latch_at}
use Rattle.tm_irq.proofs.kernel_seat.read_last_port.Goals as goal

pub load-requires : goal.load-requires
load-requires c = let five = c.requires.five in (c.requires.fits, omega arith, ends_latch_at _ _ _ c.args.seat.now.me 3 c.requires.within c.requires.kernel c.requires.so_far)
