use Rattle.std.proofs.Common.{rules}
use Rattle.tm_watch.proofs.Showing.{forks, merges}
use Rattle.tm_watch.proofs.watch.Watch.observer.Goals as goal

pub tell-requires : goal.tell-requires
tell-requires g c = forks _ _

pub learn-requires : goal.learn-requires
learn-requires g c = record { own = search rules; rule = merges _ _ _ _ }
