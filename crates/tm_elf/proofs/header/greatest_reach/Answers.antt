use Rattle.std.proofs.Common.{◌∙◌, ap, rules, tests, unwrap_or}
use Rattle.std.proofs.lemmas.Iterator.{YieldsList-from_slice, YieldsList-from_map}
use Rattle.std.proofs.lemmas.Iterator.Consumers.{reduce_from_yields_List}
use Rattle.std.proofs.lemmas.List.Folds.{max_of_map}
use Rattle.tm_elf.specs.Loads.{reach}
use Rattle.tm_elf.proofs.header.greatest_reach.Goals as goal

pub returns-clause-value : goal.returns-clause-value
returns-clause-value c =
    let start = c.args.start in
    let loads = c.args.loads.now in
    c.unwrap_or.ensures
    ∙ ap (λ o. unwrap_or o 0)
    (reduce_from_yields_List _ c.map-reaches.result _ c.max.ensures.ran
    (YieldsList-from_map _ (reach start) (YieldsList-from_slice loads cc) c.map-reaches.ensures.closure (λ x b q k. search (rules, tests))))
    ∙ max_of_map (reach start) loads
