use Rattle.std.proofs.Common.{◌≡◌, ◌+◌, ◌%◌, ◌^◌, ◌∷◌, replicate, true, false, refl, sym, subst, arith, slice_set}
use Rattle.std.proofs.lemmas.Bool.{eq-eqb, ne_eqb}
use Rattle.tm_services.specs.Alarms.{AlarmsView}
use Rattle.tm_services.specs.Waiting.{sooner}
use Rattle.tm_services.proofs.Listed.{keeps_alarms}
use Rattle.tm_services.proofs.Ticking.{IsTicking, restarted, begun, one_more_due, fewer_unmarked, all_settled, all_marked, settled_keeps}
use Rattle.tm_services.proofs.alarms.Alarms.tick.Goals as goal

pub loop-entry-init : goal.loop-entry-init
loop-entry-init c =
    rw (c.pass.ensures)
    (subst (λ (v : AlarmsView). IsTicking v ((c.self.inside.counter + 1) % 2 ^ 31) c.self.inside.number (sooner 1 c.self.inside.waiting) (replicate 16 false)) c.self.view_is
    (begun c.self.inside.counter c.self.inside.number c.self.inside.waiting c.self.invariant))

pub loop-entry-smaller-then-entry-gt0 : goal.loop-entry-smaller-then-entry-gt0
loop-entry-smaller-then-entry-gt0 c =
    let ticking : IsTicking c.args.self.now c.loop-entry.self-inside.counter c.loop-entry.self-inside.number (c.in-Some.entry ∷ c.take_due.new.self) c.loop-entry.due =
    rw c.in-Some.ensures.some.0 at c.loop-entry.invariant in
    rw c.from.ensures (fewer_unmarked _ _ _ c.in-Some.entry c.take_due.new.self c.loop-entry.due ticking c.in-Some.ensures.some.1)

pub loop-entry-preserved-then-entry-gt0 : goal.loop-entry-preserved-then-entry-gt0
loop-entry-preserved-then-entry-gt0 c =
    let ticking : IsTicking c.args.self.now c.loop-entry.self-inside.counter c.loop-entry.self-inside.number (c.in-Some.entry ∷ c.take_due.new.self) c.loop-entry.due =
    rw c.in-Some.ensures.some.0 at c.loop-entry.invariant in
    let cyclic : c.in-Some.entry.cycle ≡ 0 → ⊥ = λ z. omega arith in
    let same : restarted c.in-Some.entry c.take_due.new.self ≡ c.insert.new.self = rw (ne_eqb c.in-Some.entry.cycle 0 cyclic) (sym c.insert.ensures) in
    rw (c.from.ensures, ← same) (one_more_due _ _ _ c.in-Some.entry c.take_due.new.self c.loop-entry.due ticking c.in-Some.ensures.some.1)

pub loop-entry-smaller : goal.loop-entry-smaller
loop-entry-smaller c =
    let ticking : IsTicking c.args.self.now c.loop-entry.self-inside.counter c.loop-entry.self-inside.number (c.in-Some.entry ∷ c.take_due.new.self) c.loop-entry.due =
    rw c.in-Some.ensures.some.0 at c.loop-entry.invariant in
    rw c.from.ensures (fewer_unmarked _ _ _ c.in-Some.entry c.take_due.new.self c.loop-entry.due ticking c.in-Some.ensures.some.1)

pub loop-entry-preserved : goal.loop-entry-preserved
loop-entry-preserved c =
    let ticking : IsTicking c.args.self.now c.loop-entry.self-inside.counter c.loop-entry.self-inside.number (c.in-Some.entry ∷ c.take_due.new.self) c.loop-entry.due =
    rw c.in-Some.ensures.some.0 at c.loop-entry.invariant in
    let off : c.in-Some.entry.cycle ≡ 0 = omega arith in
    let same : restarted c.in-Some.entry c.take_due.new.self ≡ c.take_due.new.self = rw (eq-eqb c.in-Some.entry.cycle 0 off) refl in
    let next : IsTicking c.args.self.now c.loop-entry.self-inside.counter c.loop-entry.self-inside.number c.take_due.new.self (slice_set c.loop-entry.due c.in-Some.entry.alarm true) =
    rw same at (one_more_due _ _ _ c.in-Some.entry c.take_due.new.self c.loop-entry.due ticking c.in-Some.ensures.some.1) in
    rw c.from.ensures next

pub returns-clause-ticked : goal.returns-clause-ticked
returns-clause-ticked c =
    rw c.in_default.ensures.none.0
    (all_settled _ _ _ c.loop-entry.self-inside.waiting c.loop-entry.due c.loop-entry.invariant c.in_default.ensures.none.1)

pub returns-clause-due : goal.returns-clause-due
returns-clause-due c =
    all_marked _ _ _ c.loop-entry.self-inside.waiting c.loop-entry.due c.loop-entry.invariant c.in_default.ensures.none.1

pub returns-clause-sound : goal.returns-clause-sound
returns-clause-sound c =
    rw c.in_default.ensures.none.0
    (keeps_alarms _ c.loop-entry.self-inside.waiting _
    (settled_keeps _ _ _ c.loop-entry.self-inside.waiting c.loop-entry.due c.loop-entry.invariant c.in_default.ensures.none.1))
