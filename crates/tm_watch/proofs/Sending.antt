-- A watch and its observers may go to other threads.
use denote.Param.Send.{IsSend}
use Rattle.tm_watch.specs.contracts.watch.Watch as watch
use Rattle.tm_watch.specs.contracts.observer.Observer as observer
use Rattle.tm_watch.proofs.watch.Watch.TheSendSync as watch_crosses
use Rattle.tm_watch.proofs.observer.Observer.TheSendSync as observer_crosses

pub watch_sends : IsSend watch.the_row
watch_sends = watch_crosses.the_send

pub observer_sends : IsSend observer.the_row
observer_sends = observer_crosses.the_send
