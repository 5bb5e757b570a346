use Rattle.std.proofs.Common.{◌≡◌, ◌-◌, length}
use Rattle.tm_task.specs.Standing.{marker_of}
use Rattle.tm_system.specs.Alone.{height, walk_to}
use Rattle.tm_replay.specs.Walking.{alone_of, place_of, IsSound}
use Rattle.tm_replay.proofs.walker.Walker.walk_to.Given as goal

abbrev pub invariant-walk : goal.invariant-walk
invariant-walk l = record {
  sound : IsSound l.self;
  words : length l.self.task.standing.body.words ≡ length l.fn.self.task.standing.body.words;
  same : alone_of l.self ≡ alone_of l.fn.self;
  walks : walk_to (alone_of l.fn.self) l.wanted (place_of l.self) ≡ walk_to (alone_of l.fn.self) l.wanted (place_of l.fn.self);
}

abbrev pub decreases-walk : goal.decreases-walk
decreases-walk l = height l.wanted - height (marker_of l.self.task.standing)
