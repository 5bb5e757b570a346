use Rattle.std.proofs.Common.{◌≡◌, ◌∙◌, refl, sym, subst, ap, inl, arith}
use Rattle.std.proofs.lemmas.Bool.Decides.{nat_tests}
use Rattle.tm_task.specs.Standing.{TaskView}
use Rattle.tm_task.specs.RunsOn.{HasStopped}
use Rattle.tm_task.proofs.Running.{runs_none, runs_more, runs_and_stays, runs_as_many}
use Rattle.tm_task.proofs.run.turns.Goals as goal

pub loop-done-init : goal.loop-done-init
loop-done-init c =
    record {
      ran = λ entry epoch. runs_none _ _;
      aligned = c.requires.aligned;
      small = c.requires.small;
      room = c.requires.room;
      registers = refl;
      words = refl;
    }

pub loop-done-preserved : goal.loop-done-preserved
loop-done-preserved c =
    record {
      ran = λ entry epoch. runs_more _ _ _ _ _ (c.loop-done.invariant.ran entry epoch) (c.in-On.ensures.turned entry epoch).did;
      aligned = c.turn.ensures.aligned;
      small = c.turn.ensures.small;
      room = (c.in-On.ensures.turned 0 0).room;
      registers = c.turn.ensures.registers ∙ c.loop-done.invariant.registers;
      words = c.turn.ensures.words ∙ c.loop-done.invariant.words;
    }

pub returns-in-Last : goal.returns-in-Last
returns-in-Last c =
    let full = (c.in-Last.ensures.turned 0 0).full in
    record {
      within = omega arith;
      ran = λ entry epoch. runs_more _ _ _ _ _ (c.loop-done.invariant.ran entry epoch) (c.in-Last.ensures.turned entry epoch).did;
      stopped = λ _ entry epoch. inl (c.in-Last.ensures.turned entry epoch).full;
      aligned = c.turn.ensures.aligned;
      small = c.turn.ensures.small;
      count = grind (arith, nat_tests, full);
      registers = c.turn.ensures.registers ∙ c.loop-done.invariant.registers;
      words = c.turn.ensures.words ∙ c.loop-done.invariant.words;
    }

pub returns-in-Stopped : goal.returns-in-Stopped
returns-in-Stopped c =
    let same : c.turn.new.count ≡ c.loop-done.count = ap (λ (t : TaskView). t.standing.count) (c.in-Stopped.ensures.turned 0 0).same in
    record {
      within = omega arith;
      ran = λ entry epoch. runs_and_stays _ _ _ _ _ (c.loop-done.invariant.ran entry epoch) (c.in-Stopped.ensures.turned entry epoch).same;
      stopped = λ _ entry epoch. subst (HasStopped c.args.code.now) (sym (c.in-Stopped.ensures.turned entry epoch).same) (c.in-Stopped.ensures.turned entry epoch).stopped;
      aligned = c.turn.ensures.aligned;
      small = c.turn.ensures.small;
      count = omega arith;
      registers = c.turn.ensures.registers ∙ c.loop-done.invariant.registers;
      words = c.turn.ensures.words ∙ c.loop-done.invariant.words;
    }

pub returns : goal.returns
returns c =
    let all : c.loop-done.done ≡ c.args.most = omega arith in
    record {
      within = omega arith;
      ran = λ entry epoch. runs_as_many _ _ _ _ _ all (c.loop-done.invariant.ran entry epoch);
      stopped = λ less. absurd (omega arith);
      aligned = c.loop-done.invariant.aligned;
      small = c.loop-done.invariant.small;
      count = omega arith;
      registers = c.loop-done.invariant.registers;
      words = c.loop-done.invariant.words;
    }
