use Rattle.tm_watch.proofs.Showing.{sees}
use Rattle.tm_watch.proofs.observer.enter.Goals as goal

pub enter_as-requires : goal.enter_as-requires
enter_as-requires c = sees _ _
