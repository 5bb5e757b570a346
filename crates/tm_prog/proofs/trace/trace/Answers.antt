use Rattle.std.proofs.Common.{◌≡◌, ℕ, List, length, All, ap, sym, subst, ◌∙◌, take, IfOk, arith, rules}
use Rattle.tm_marker.specs.declared.entries.Slice.{Slice}
use Rattle.tm_image.specs.Plan.{IsSlice}
use Rattle.std.proofs.lemmas.List.{take_all}
use Rattle.tm_spelling.specs.Story.{spelled}
use Rattle.tm_system.specs.History.{History}
use Rattle.tm_system.specs.Run.{run}
use Rattle.tm_system.specs.Hearing.{StandAt}
use Rattle.tm_prog.specs.Teller.{HasTold}
use Rattle.tm_system.specs.Telling.{story, text_of_run}
use Rattle.tm_prog.proofs.Traced.{few_tasks, script_young, run_next}
use Rattle.tm_prog.proofs.Starting.{start_told, end_traced}
use Rattle.tm_prog.proofs.trace.trace.Goals as goal

pub loop-index-init : goal.loop-index-init
loop-index-init c =
    let at = c.in_ok-machine.ensures.boot in
    record {
      at = at;
      stood = start_told c.args.image.now c.in_ok-machine.machine c.in_ok-teller.teller (few_tasks _ c.tasks-tasks.ensures.sound) at c.in_ok-teller.ensures;
    }

pub slice-requires-clause-young : goal.slice-requires-clause-young
slice-requires-clause-young c =
    script_young c.args.image.now c.slices-slices.result.now c.loop-index.index c.loop-index.machine c.loop-index.teller c.tasks-tasks.ensures.sound
    (subst (λ (x : List Slice). All IsSlice x) (sym c.slices-slices.ensures.value) c.slices-slices.ensures.sound) (omega arith)
    (omega (arith, ap (λ (x : List Slice). length x) c.slices-slices.ensures.value)) c.loop-index.invariant

pub loop-index-preserved : goal.loop-index-preserved
loop-index-preserved c =
    subst (λ (h : History). StandAt HasTold c.args.image.now c.slice.new.self c.slice.new.listener h)
    (sym (run_next c.args.image.now c.slices-slices.result.now c.loop-index.index _ (omega arith) (search rules)))
    (c.in_ok-slice.ensures.stand (run c.args.image.now (take c.loop-index.index c.slices-slices.result.now)) c.loop-index.invariant)

pub end-requires-clause-few : goal.end-requires-clause-few
end-requires-clause-few c = omega (arith, c.loop-index.invariant.at.tasks, few_tasks c.args.image.now c.tasks-tasks.ensures.sound)

pub end-requires-clause-tasks : goal.end-requires-clause-tasks
end-requires-clause-tasks c = omega (arith, c.loop-index.invariant.stood.tasks, c.loop-index.invariant.at.tasks)

pub returns : goal.returns
unfolding text_of_run
returns c =
    let standing = c.loop-index.invariant in
    let all : take c.loop-index.index c.slices-slices.result.now ≡ c.args.plan.now =
    take_all c.loop-index.index c.slices-slices.result.now (omega arith) ∙ c.slices-slices.ensures.value in
    subst (λ (x : List ℕ). IfOk c.end.result (λ text. text.items ≡ x))
    (end_traced c.args.image.now (run c.args.image.now (take c.loop-index.index c.slices-slices.result.now))
    c.loop-index.machine c.loop-index.teller (few_tasks _ c.tasks-tasks.ensures.sound) standing ∙
    ap (λ s. spelled (story c.args.image.now 0 (run c.args.image.now s))) all)
    c.end.ensures
