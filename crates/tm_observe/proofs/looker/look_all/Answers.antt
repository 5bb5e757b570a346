use denote.Param.Send.{sendable}
use Rattle.tm_observe.proofs.looker.Looker.TheSendSync as looker
use Rattle.tm_observe.proofs.looker.look_all.Goals as goal

pub for_each_mut-requires-send-T : goal.for_each_mut-requires-send-T
for_each_mut-requires-send-T g c κs within = search (sendable, looker.the_send) depth 8
