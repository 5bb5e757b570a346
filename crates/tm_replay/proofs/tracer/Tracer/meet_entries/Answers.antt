use Rattle.std.proofs.Common.{◌≡◌, ◌+◌, Some, Err, ap, sym, subst, ◌∙◌, arith}
use Rattle.std.specs.Prelude.{option_copied}
use Rattle.std.proofs.lemmas.Result.{err_from_is_err_and}
use Rattle.tm_ring.specs.Kept.{item_of}
use Rattle.tm_system.specs.Alone.{Alone}
use Rattle.tm_system.specs.Tracing.{On, meets}
use Rattle.tm_system.specs.Wanted.{left_wanted, resumed_wanted}
use Rattle.tm_replay.specs.Meeting.{tracing_of, Met}
use Rattle.tm_replay.specs.Walking.{alone_of}
use Rattle.tm_replay.proofs.Demands.{left_off, resumed_off, entries_on, entries_end}
use Rattle.tm_replay.proofs.tracer.Tracer.meet_entries.Goals as goal

pub returns-in_err-meet_left-clause-met : goal.returns-in_err-meet_left-clause-met
returns-in_err-meet_left-clause-met c =
    let p = err_from_is_err_and c.from_residual.result c.from_residual.ensures.1 in
    let there : item_of c.args.control.now c.loop-number.number ≡ Some c.in-Some.entry.now = sym c.get.ensures.item ∙ ap option_copied c.in-Some.is in
    let met = subst (λ (a : Alone). Met {X = Unit {0}} (meets a (left_wanted a.task (c.loop-number.number + 1) c.in-Some.entry.now) (On (tracing_of c.loop-number.self)))
    (Err c.in_err-meet_left.field-0.0) c.meet_left.new.self) c.loop-number.invariant.same c.in_err-meet_left.ensures.met in
    rw (p.1, p.2)
    (left_off (alone_of c.args.self.now.walker) c.args.self.now.walker.number c.loop-number.number c.args.control.now c.in-Some.entry.now
    (tracing_of c.loop-number.self) c.in_err-meet_left.field-0.0 _ c.meet_left.new.self c.meet_left.new.self (omega arith) there met
    c.loop-number.invariant.met)

pub returns-in_err-meet_resumed-clause-met : goal.returns-in_err-meet_resumed-clause-met
returns-in_err-meet_resumed-clause-met c =
    let p = err_from_is_err_and c.from_residual-in_err-meet_resumed.result c.from_residual-in_err-meet_resumed.ensures.1 in
    let there : item_of c.args.control.now c.loop-number.number ≡ Some c.in-Some.entry.now = sym c.get.ensures.item ∙ ap option_copied c.in-Some.is in
    let left = subst (λ (a : Alone). meets a (left_wanted a.task (c.loop-number.number + 1) c.in-Some.entry.now) (On (tracing_of c.loop-number.self))
    ≡ On (tracing_of c.meet_left.new.self)) c.loop-number.invariant.same c.in_ok-meet_left.ensures.met in
    let met = subst (λ (a : Alone). Met {X = Unit {0}} (meets a (resumed_wanted a.task (c.loop-number.number + 1) c.in-Some.entry.now) (On (tracing_of c.meet_left.new.self)))
    (Err c.in_err-meet_resumed.field-0.0) c.meet_left.new.self) (c.in_ok-meet_left.ensures.same ∙ c.loop-number.invariant.same) c.in_err-meet_resumed.ensures in
    rw (p.1, p.2)
    (resumed_off (alone_of c.args.self.now.walker) c.args.self.now.walker.number c.loop-number.number c.args.control.now c.in-Some.entry.now
    (tracing_of c.loop-number.self) (tracing_of c.meet_left.new.self) c.in_err-meet_resumed.field-0.0 _ c.meet_left.new.self c.meet_left.new.self
    (omega arith) there left met c.loop-number.invariant.met)

pub loop-number-preserved : goal.loop-number-preserved
loop-number-preserved c =
    let there : item_of c.args.control.now c.loop-number.number ≡ Some c.in-Some.entry.now = sym c.get.ensures.item ∙ ap option_copied c.in-Some.is in
    let left = subst (λ (a : Alone). meets a (left_wanted a.task (c.loop-number.number + 1) c.in-Some.entry.now) (On (tracing_of c.loop-number.self))
    ≡ On (tracing_of c.meet_left.new.self)) c.loop-number.invariant.same c.in_ok-meet_left.ensures.met in
    let resumed = subst (λ (a : Alone). meets a (resumed_wanted a.task (c.loop-number.number + 1) c.in-Some.entry.now) (On (tracing_of c.meet_left.new.self))
    ≡ On (tracing_of c.meet_left.new.self)) (c.in_ok-meet_left.ensures.same ∙ c.loop-number.invariant.same) c.in_ok-meet_resumed.ensures in
    record {
      tracer = c.in_ok-meet_left.ensures.tracer;
      same = c.in_ok-meet_left.ensures.same ∙ c.loop-number.invariant.same;
      met =
          entries_on (alone_of c.args.self.now.walker) c.args.self.now.walker.number c.loop-number.number c.args.control.now c.in-Some.entry.now
          (tracing_of c.loop-number.self) (tracing_of c.meet_left.new.self) (tracing_of c.meet_left.new.self) _ (omega arith) there left resumed
          c.loop-number.invariant.met;
    }

pub returns-clause-met : goal.returns-clause-met
returns-clause-met c =
    entries_end (alone_of c.args.self.now.walker) c.args.self.now.walker.number c.loop-number.number c.args.control.now (tracing_of c.loop-number.self) _
    (omega arith) (omega arith) c.loop-number.invariant.met
