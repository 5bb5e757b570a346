use Rattle.std.proofs.Common.{◌≡◌, ◌+◌}
use Rattle.tm_log.specs.Points.{entries_from}
use Rattle.tm_system.specs.Tracing.{On, meets}
use Rattle.tm_system.specs.Wanted.{wanted_by}
use Rattle.tm_replay.specs.Meeting.{tracing_of, IsTracer}
use Rattle.tm_replay.specs.Walking.{alone_of}
use Rattle.tm_replay.proofs.tracer.Tracer.meet_entries.Given as goal

abbrev pub invariant-loop-number : goal.invariant-loop-number
invariant-loop-number l = record {
  tracer : IsTracer l.self;
  same : alone_of l.self.walker ≡ alone_of l.fn.self.walker;
  met :
      meets (alone_of l.fn.self.walker) (wanted_by l.fn.self.walker.number (l.number + 1) (entries_from l.control l.number)) (On (tracing_of l.self)) ≡
      meets (alone_of l.fn.self.walker) (wanted_by l.fn.self.walker.number (l.fn.from + 1) (entries_from l.control l.fn.from)) (On (tracing_of l.fn.self));
}
