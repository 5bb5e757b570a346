use Rattle.std.proofs.Common.{◌≡◌, List, map, rules, subst}
use Rattle.std.specs.Prelude.{IfOk}
use Rattle.std.proofs.lemmas.List.{map-id}
use Rattle.std.proofs.lemmas.Iterator.{YieldsList-from_map_by}
use Rattle.std.proofs.lemmas.Iterator.Adapters.{YieldsList-from_vec}
use Rattle.std.proofs.lemmas.Iterator.Consumers.{map_from_collect, YieldsList-at}
use Rattle.tm_watch.specs.Views.{Observed}
use Rattle.tm_observe.specs.Lookers.{LookerView}
use Rattle.tm_observe.proofs.looker.lookers_of.Goals as goal

pub returns-clause-observers : goal.returns-clause-observers
returns-clause-observers c =
    let source = YieldsList-at c.map.ensures.source (YieldsList-from_vec {s = c.into_iter.result} c.args.observers.items (search rules) (search rules)) in
    let made = map_from_collect c.collect.result c.collect.ensures.ran (YieldsList-from_map_by _ (λ (l : LookerView). l.observer) (λ (o : Observed). o) source c.map.ensures.closure (λ x r q k. search rules)) in
    subst (λ (all : List Observed). IfOk c.collect.result (λ lookers. map (λ (l : LookerView). l.observer) lookers.items ≡ all)) (map-id c.args.observers.items) made
