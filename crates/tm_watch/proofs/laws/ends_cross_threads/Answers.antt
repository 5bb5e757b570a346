use Rattle.tm_watch.proofs.Sending.{watch_sends, observer_sends}
use Rattle.tm_watch.proofs.laws.ends_cross_threads.Goals as goal

pub returns-clause-watch : goal.returns-clause-watch
returns-clause-watch c = watch_sends

pub returns-clause-observer : goal.returns-clause-observer
returns-clause-observer c = observer_sends
