use Rattle.std.proofs.Common.{refl}
use Rattle.tm_replay.specs.Meeting.{tracing_of}
use Rattle.tm_replay.specs.Walking.{alone_of}
use Rattle.tm_replay.proofs.Demands.{resumed_here, resumed_other, met_stood, met_same}
use Rattle.tm_system.specs.Tracing.{On}
use Rattle.tm_replay.proofs.tracer.Tracer.meet_resumed.Goals as goal

pub returns-then-entry-self : goal.returns-then-entry-self
returns-then-entry-self c =
    resumed_other (alone_of c.args.self.now.walker) c.args.self.now.walker.number c.args.seq c.args.entry.now (On (tracing_of c.args.self.now)) c.if-entry-self.true

pub returns : goal.returns
returns c =
    met_same _ _ c.stand.result c.args.self.now
    (resumed_here (alone_of c.args.self.now.walker) c.args.self.now.walker.number c.args.seq c.args.entry.now (On (tracing_of c.args.self.now)) c.if-entry-self.false)
    (met_stood (alone_of c.args.self.now.walker) c.args.seq c.args.entry.now.to_at (tracing_of c.args.self.now) c.stand.result c.args.self.now refl c.stand.ensures)
