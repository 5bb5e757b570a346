use Rattle.std.proofs.Common.{arith}
use Rattle.tm_irq.proofs.Porting.{latches_at}
use Rattle.tm_irq.proofs.kernel_seat.read_port.Goals as goal

pub load-requires : goal.load-requires
load-requires c = let five = c.requires.five in let within = c.requires.within in (c.requires.fits, omega arith, latches_at _ _ _ c.args.seat.now.me c.args.port c.requires.within c.requires.kernel c.requires.so_far)
