use Rattle.tm_live.proofs.Playing.{PlayedSome}
use Rattle.tm_live.proofs.devices.play.Given as goal

abbrev pub invariant-loop-act : goal.invariant-loop-act
invariant-loop-act g l = PlayedSome l.acts l.act-index l.fn.device l.device
