use Rattle.std.proofs.Common.{refl}
use Rattle.tm_prog.specs.Class.{class_of}
use Rattle.tm_prog.proofs.Consequences.{counts, stays, others_stay, unput, undisturbed, refusals}
use Rattle.tm_prog.proofs.RunEnds.{replays_run, lists_run}
use Rattle.tm_prog.proofs.tm.Goals as goal

pub returns-clause-counts : goal.returns-clause-counts
returns-clause-counts g c = counts (class_of c.answered.result) c.answered.result _ _ _ _ c.answered.ensures.answer

pub returns-clause-stays : goal.returns-clause-stays
returns-clause-stays g c = stays (class_of c.answered.result) c.answered.result _ _ _ _ c.answered.ensures.answer

pub returns-clause-others_stay : goal.returns-clause-others_stay
returns-clause-others_stay g c = others_stay (class_of c.answered.result) c.answered.result _ _ _ _ c.answered.ensures.answer

pub returns-clause-unput : goal.returns-clause-unput
returns-clause-unput g c = unput c.answered.result _ _ _ _ c.answered.ensures.answer

pub returns-clause-undisturbed : goal.returns-clause-undisturbed
returns-clause-undisturbed g c = λ tells made due quiet.
    undisturbed (class_of c.answered.result) c.answered.result _ _ _ _ made c.answered.ensures.answer refl tells due quiet

pub returns-clause-refusals : goal.returns-clause-refusals
returns-clause-refusals g c = refusals c.answered.result _ _ _ _ c.answered.ensures.answer

pub returns-clause-replays : goal.returns-clause-replays
returns-clause-replays g c = λ image script point tells asks.
    replays_run c.answered.result _ _ image script point _ _ (record {
      undisturbed = λ told made due quiet. undisturbed (class_of c.answered.result) c.answered.result _ _ _ _ made c.answered.ensures.answer refl told due quiet;
      ready = c.answered.ensures.ready;
    })
    c.answered.ensures.answer tells asks

pub returns-clause-lists : goal.returns-clause-lists
returns-clause-lists g c = λ image script tells asks.
    lists_run c.answered.result _ _ image script _ _ (record {
      undisturbed = λ told made due quiet. undisturbed (class_of c.answered.result) c.answered.result _ _ _ _ made c.answered.ensures.answer refl told due quiet;
      ready = c.answered.ensures.ready;
    })
    c.answered.ensures.answer tells asks
