use Rattle.std.proofs.Common.{ap, refl}
use Rattle.tm_system.specs.Tracing.{On, meet}
use Rattle.tm_replay.specs.Meeting.{tracing_of}
use Rattle.tm_replay.specs.Walking.{alone_of}
use Rattle.tm_replay.proofs.Demands.{met_runs, met_stood, met_same, last_here, last_other, goes_on}
use Rattle.tm_replay.proofs.tracer.Tracer.meet_last.Goals as goal

pub returns-then-running-self-clause-tracer : goal.returns-then-running-self-clause-tracer
returns-then-running-self-clause-tracer c =
    goes_on c.reach.result c.args.self.now c.reach.new.self c.requires.tracer c.reach.ensures.sound c.reach.ensures.same c.reach.ensures.words

pub returns-then-running-self-clause-met : goal.returns-then-running-self-clause-met
returns-then-running-self-clause-met c =
    met_same _ _ c.reach.result _
    (ap (λ d. meet (alone_of c.args.self.now.walker) d (On (tracing_of c.args.self.now)))
    (last_here c.args.self.now.walker.number c.args.seq c.args.running c.args.last c.if-running-self.true))
    (met_runs (alone_of c.args.self.now.walker) c.args.seq c.args.last (tracing_of c.args.self.now) c.reach.result c.reach.new.self _ refl
    c.reach.ensures.reached)

pub returns-clause-met : goal.returns-clause-met
returns-clause-met c =
    met_same _ _ c.stand.result c.args.self.now
    (ap (λ d. meet (alone_of c.args.self.now.walker) d (On (tracing_of c.args.self.now)))
    (last_other c.args.self.now.walker.number c.args.seq c.args.running c.args.last c.if-running-self.false))
    (met_stood (alone_of c.args.self.now.walker) c.args.seq c.args.last (tracing_of c.args.self.now) c.stand.result c.args.self.now refl c.stand.ensures)
