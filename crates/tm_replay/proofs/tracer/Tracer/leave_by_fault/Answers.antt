use Rattle.std.proofs.Common.{true, ap, sym, subst, ◌∙◌, Err, Ok}
use Rattle.std.proofs.lemmas.Result.{err_from_is_err_and}
use Rattle.tm_task.specs.Place.{Place}
use Rattle.tm_system.specs.Alone.{Alone}
use Rattle.tm_system.specs.Tracing.{On, stopped}
use Rattle.tm_system.specs.Wanted.{Leaves}
use Rattle.tm_replay.specs.Meeting.{tracing_of}
use Rattle.tm_replay.specs.Walking.{alone_of, place_of, DidFault}
use Rattle.tm_replay.proofs.Demands.{met_no_leave, met_no_fault, faults}
use Rattle.tm_replay.proofs.tracer.Tracer.leave_by_fault.Goals as goal

pub returns-in_err-reach-clause-met : goal.returns-in_err-reach-clause-met
returns-in_err-reach-clause-met c =
    let p = err_from_is_err_and c.from_residual.result c.from_residual.ensures.1 in
    rw (p.1, p.2)
    (met_no_leave (alone_of c.args.self.now.walker) c.args.seq c.args.wanted (tracing_of c.args.self.now) true c.in_err-reach.field-0.0
    c.reach.new.self (record c.args.self.now { walker = c.reach.new.self }) c.in_err-reach.ensures.reached)

pub returns-in_err-cause-clause-met : goal.returns-in_err-cause-clause-met
returns-in_err-cause-clause-met c =
    let p = err_from_is_err_and c.from_residual-in_err-cause.result c.from_residual-in_err-cause.ensures.1 in
    rw (p.1, p.2)
    (met_no_fault (alone_of c.args.self.now.walker) c.args.seq c.args.wanted (tracing_of c.args.self.now) (place_of c.reach.new.self)
    c.in_err-cause.field-0.0 (record c.args.self.now { walker = c.fault.new.self }) c.in_ok-reach.ensures.reached.walked c.in_ok-reach.ensures.reached.at
    (subst (λ (a : Alone). DidFault a c.args.seq c.args.wanted (place_of c.reach.new.self) (Err c.in_err-cause.field-0.0))
    c.in_ok-reach.ensures.same c.in_err-cause.ensures.faulted))

pub stop-requires : goal.stop-requires
stop-requires c = record {
  sound = c.in_ok-cause.ensures.sound;
  own = c.requires.tracer.own ∙ sym (ap (λ (a : Alone). a.task) (c.in_ok-cause.ensures.same ∙ c.in_ok-reach.ensures.same));
  printed = c.requires.tracer.printed ∙ sym (c.in_ok-cause.ensures.words ∙ c.in_ok-reach.ensures.words);
}

pub returns-clause-met : goal.returns-clause-met
returns-clause-met c =
    let did = subst (λ (a : Alone). DidFault a c.args.seq c.args.wanted (place_of c.reach.new.self) (Ok c.in_ok-cause.cause))
    c.in_ok-reach.ensures.same c.in_ok-cause.ensures.faulted in
    faults (alone_of c.args.self.now.walker) c.args.seq c.args.wanted (tracing_of c.args.self.now) (place_of c.reach.new.self) _
    c.in_ok-reach.ensures.reached.walked c.in_ok-reach.ensures.reached.at
    (did (record { seq = c.args.seq; at = c.args.wanted; way = Leaves true }) (tracing_of c.args.self.now))
    ∙ ap (λ (a : Alone). On (stopped a.task c.args.seq (tracing_of c.args.self.now) (place_of c.reach.new.self) c.in_ok-cause.cause))
    (sym (c.in_ok-cause.ensures.same ∙ c.in_ok-reach.ensures.same))
    ∙ ap (λ (q : Place). On (stopped c.fault.new.self.number c.args.seq (tracing_of c.args.self.now) q c.in_ok-cause.cause)) (sym c.in_ok-cause.ensures.place)
    ∙ ap On (sym c.in_ok-stop.ensures.stopped)
