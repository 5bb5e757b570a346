use Rattle.std.proofs.Common.{◌≡◌, List, All, ap, sym, ◌∙◌, subst}
use mathlib.Core.List.{IsPrefix}
use Rattle.tm_marker.specs.declared.entries.Slice.{Slice}
use Rattle.tm_watch.proofs.Prefixes.{all_begin}
use Rattle.tm_watch.proofs.observer.Observer.look.Goals as goal

pub returns-clause-no_less : goal.returns-clause-no_less
returns-clause-no_less g c =
    let seen = c.again.result.list in
    let found : c.reach-reading.result.part.value.front.list ≡ seen = sym (ap (λ t. t.list) (c.again.ensures ∙ ap (λ v. v.front) c.get-version.ensures)) in
    let longest : IsPrefix c.self.inside.longest.list seen = subst (λ (ys : List Slice). IsPrefix c.self.inside.longest.list ys) found c.reach-reading.ensures.no_less in
    subst (λ (told : List (List Slice)). All (λ list. IsPrefix list seen) told) (ap (λ o. o.told) c.self.view_is)
    (all_begin c.self.inside.told.log c.self.inside.longest.list seen longest c.self.invariant.2)
