use Rattle.std.proofs.Common.{false, ap, sym, ◌∙◌}
use Rattle.std.proofs.lemmas.Result.{err_from_is_err_and}
use Rattle.tm_system.specs.Alone.{Alone}
use Rattle.tm_system.specs.Tracing.{On, stopped}
use Rattle.tm_replay.specs.Meeting.{tracing_of}
use Rattle.tm_replay.specs.Walking.{alone_of, place_of}
use Rattle.tm_replay.proofs.Demands.{met_no_leave, leaves}
use Rattle.tm_replay.proofs.tracer.Tracer.leave.Goals as goal

pub returns-in_err-reach-clause-met : goal.returns-in_err-reach-clause-met
returns-in_err-reach-clause-met c =
    let p = err_from_is_err_and c.from_residual.result c.from_residual.ensures.1 in
    rw (p.1, p.2)
    (met_no_leave (alone_of c.args.self.now.walker) c.args.seq c.args.wanted (tracing_of c.args.self.now) false c.in_err-reach.field-0.0
    c.reach.new.self (record c.args.self.now { walker = c.reach.new.self }) c.in_err-reach.ensures.reached)

pub stop-requires : goal.stop-requires
stop-requires c = record {
  sound = c.in_ok-reach.ensures.sound;
  own = c.requires.tracer.own ∙ sym (ap (λ (a : Alone). a.task) c.in_ok-reach.ensures.same);
  printed = c.requires.tracer.printed ∙ sym c.in_ok-reach.ensures.words;
}

pub returns-clause-met : goal.returns-clause-met
returns-clause-met c =
    leaves (alone_of c.args.self.now.walker) c.args.seq c.args.wanted (tracing_of c.args.self.now) (place_of c.reach.new.self)
    c.in_ok-reach.ensures.reached.walked c.in_ok-reach.ensures.reached.at
    ∙ ap (λ (a : Alone). On (stopped a.task c.args.seq (tracing_of c.args.self.now) (place_of c.reach.new.self) 0)) (sym c.in_ok-reach.ensures.same)
    ∙ ap On (sym c.in_ok-stop.ensures.stopped)
