use Rattle.std.proofs.Common.{◌≡◌, ◌+◌, ◌-◌, sym, ap, subst, ◌∙◌, arith}
use Rattle.tm_kernel.specs.State.{nobody}
use Rattle.tm_system.specs.History.{History}
use Rattle.tm_system.specs.Run.{turns, running_at}
use Rattle.tm_system.specs.Hearing.{heard, after_turns, StandAt}
use Rattle.tm_system.proofs.Adding.{turns_add}
use Rattle.tm_system.proofs.Playing.{turns_none, turns_idle}
use Rattle.tm_system.proofs.Hearing.{turns_young, after_none, after_add, after_idle}
use Rattle.tm_system.proofs.machine.Machine.instructions.Goals as goal
use Rattle.tm_system.proofs.machine.Machine.instructions.Goals.{then-loop-done-test+else-running-ne-NOBODY, else-loop-done-test}

pub loop-done-init : goal.loop-done-init
loop-done-init g c = record {
  within = omega arith;
  stand = λ h s.
      subst (λ (k : History). StandAt g.L.Listener.stands c.args.image.now c.args.self.now c.args.listener.now k) (sym (turns_none c.args.image.now h)) s;
  heard = sym (after_none g.L.Listener.hears c.args.image.now _);
}

pub stretch-requires-clause-young : goal.stretch-requires-clause-young
stretch-requires-clause-young g c =
    let y = c.requires.young in
    turns_young g.L.Listener.stands c.args.image.now y.history c.loop-done.done c.args.most (c.args.most - c.loop-done.done) c.loop-done.self c.loop-done.listener
    c.requires.image y.bodies y.few (omega arith) (c.loop-done.invariant.stand y.history y.standing)

pub loop-done-preserved : goal.loop-done-preserved
loop-done-preserved g c = record {
  within = omega (arith, c.in_ok-done.ensures.within);
  stand = λ h s.
      subst (λ (k : History). StandAt g.L.Listener.stands c.args.image.now c.stretch.new.self c.stretch.new.listener k)
      (sym (turns_add c.args.image.now c.loop-done.done c.in_ok-done.field-0 h))
      (c.in_ok-done.ensures.stand (turns c.args.image.now c.loop-done.done h) (c.loop-done.invariant.stand h s));
  heard = c.in_ok-done.ensures.heard ∙ ap (after_turns g.L.Listener.hears c.args.image.now c.in_ok-done.field-0) c.loop-done.invariant.heard
      ∙ sym (after_add g.L.Listener.hears c.args.image.now c.loop-done.done c.in_ok-done.field-0 (heard c.args.self.now c.args.listener.now));
}

pub returns-clause-stand : goal.returns-clause-stand
returns-clause-stand g c = λ h s.
    let here = c.loop-done.invariant.stand h s in
    let P : History → Type 0 = λ (k : History). StandAt g.L.Listener.stands c.args.image.now c.loop-done.self c.loop-done.listener k in
    elim c.loop-done-test.branch [
      | then-loop-done-test+else-running-ne-NOBODY w ↦
          let idle : running_at c.args.image.now (turns c.args.image.now c.loop-done.done h) ≡ nobody =
          sym (ap (λ k. k.running) here.at.kernel) ∙ sym w.running.ensures.task ∙ w.if-running-ne-NOBODY.false in
          let rest : c.loop-done.done + (c.args.most - c.loop-done.done) ≡ c.args.most = omega (arith, c.loop-done.invariant.within) in
          subst P (sym (turns_idle c.args.image.now c.loop-done.done (c.args.most - c.loop-done.done) h idle) ∙ ap (λ n. turns c.args.image.now n h) rest) here
      | else-loop-done-test w ↦
          let all : c.loop-done.done ≡ c.args.most = omega (arith, c.loop-done.invariant.within, w.loop-done-test) in
          subst P (ap (λ n. turns c.args.image.now n h) all) here
    ]

pub returns-clause-heard : goal.returns-clause-heard
returns-clause-heard g c =
    let before = heard c.args.self.now c.args.listener.now in
    let here = c.loop-done.invariant.heard in
    elim c.loop-done-test.branch [
      | then-loop-done-test+else-running-ne-NOBODY w ↦
          let idle : (after_turns g.L.Listener.hears c.args.image.now c.loop-done.done before).machine.kernel.running ≡ nobody =
          sym (ap (λ x. x.machine.kernel.running) here) ∙ sym w.running.ensures.task ∙ w.if-running-ne-NOBODY.false in
          let rest : c.loop-done.done + (c.args.most - c.loop-done.done) ≡ c.args.most = omega (arith, c.loop-done.invariant.within) in
          here ∙ sym (after_idle g.L.Listener.hears c.args.image.now c.loop-done.done (c.args.most - c.loop-done.done) before idle)
          ∙ ap (λ n. after_turns g.L.Listener.hears c.args.image.now n before) rest
      | else-loop-done-test w ↦
          let all : c.loop-done.done ≡ c.args.most = omega (arith, c.loop-done.invariant.within, w.loop-done-test) in
          here ∙ ap (λ n. after_turns g.L.Listener.hears c.args.image.now n before) all
    ]
