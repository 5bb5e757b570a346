use denote.Param.Send.{sendable}
use Rattle.tm_irq.proofs.kernel_seat.KernelSeat.TheSendSync as kernel
use Rattle.tm_live.proofs.tape.Tape.TheSendSync as tape
use Rattle.tm_watch.proofs.watch.Watch.TheSendSync as watch
use Rattle.tm_observe.proofs.observing.Pace.TheSendSync as pace
use Rattle.tm_observe.proofs.observing.run_beside.Goals as goal

pub join_mut-outcome-requires-send-F : goal.join_mut-outcome-requires-send-F
join_mut-outcome-requires-send-F g c κs within = search (sendable, kernel.the_send, tape.the_send, watch.the_send, pace.the_sync) depth 12
