use Rattle.std.proofs.Common.{true, false, ap, ◌∙◌}
use Rattle.tm_system.specs.Tracing.{On, meets}
use Rattle.tm_system.specs.Wanted.{is_fault}
use Rattle.tm_replay.specs.Meeting.{tracing_of}
use Rattle.tm_replay.specs.Walking.{alone_of}
use Rattle.tm_replay.proofs.Demands.{left_here, left_other, no_fault, meets_single, met_same}
use Rattle.tm_replay.proofs.tracer.Tracer.meet_left.Goals as goal

pub returns-then-entry-self-clause-met : goal.returns-then-entry-self-clause-met
returns-then-entry-self-clause-met c =
    left_other (alone_of c.args.self.now.walker) c.args.self.now.walker.number c.args.seq c.args.entry.now (On (tracing_of c.args.self.now)) c.if-entry-self.true

pub returns-in-Fault-clause-met : goal.returns-in-Fault-clause-met
returns-in-Fault-clause-met c =
    met_same _ _ c.leave_by_fault.result c.leave_by_fault.new.self
    (ap (λ ds. meets (alone_of c.args.self.now.walker) ds (On (tracing_of c.args.self.now)))
    (left_here c.args.self.now.walker.number c.args.seq c.args.entry.now true c.if-entry-self.false (ap is_fault c.in-Fault.is))
    ∙ meets_single (alone_of c.args.self.now.walker) _ (On (tracing_of c.args.self.now)))
    c.leave_by_fault.ensures.met

pub returns-in_default-clause-met : goal.returns-in_default-clause-met
returns-in_default-clause-met c =
    met_same _ _ c.leave.result c.leave.new.self
    (ap (λ ds. meets (alone_of c.args.self.now.walker) ds (On (tracing_of c.args.self.now)))
    (left_here c.args.self.now.walker.number c.args.seq c.args.entry.now false c.if-entry-self.false (no_fault c.args.entry.now.kind c.in_default.not-Fault))
    ∙ meets_single (alone_of c.args.self.now.walker) _ (On (tracing_of c.args.self.now)))
    c.leave.ensures.met
