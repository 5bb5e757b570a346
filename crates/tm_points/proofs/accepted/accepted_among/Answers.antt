use Rattle.std.proofs.Common.{filter, ap, ◌∙◌}
use Rattle.rayon.specs.Numbers.{nat_range}
use Rattle.rayon.proofs.ListFacts.{IfOk-then}
use Rattle.rayon.proofs.ToStd.{filter_by_mask-filter, answers-by_ref}
use Rattle.tm_log.specs.Window.{WindowView}
use Rattle.tm_points.specs.Points.{is_accepted}
use Rattle.tm_points.proofs.accepted.accepted_among.Goals as goal

pub returns : goal.returns
returns g c =
    let ends = c.into_par_iter.ensures in
    IfOk-then c.collect.result _ _ c.collect.ensures (λ v h.
    let chain = h.1 in
    let test = is_accepted c.filter.result.f.0.now in
    h.2
    ∙ chain.4
    ∙ filter_by_mask-filter test chain.0 chain.1 (answers-by_ref test chain.0 chain.1 chain.3)
    ∙ ap (λ (w : WindowView). filter (is_accepted w) chain.0) (ap (λ f. f.0.now) c.filter.ensures.f)
    ∙ ap (filter (is_accepted c.args.window.now)) (
    chain.2
    ∙ ap (λ it. nat_range it.start it.end) c.filter.ensures.base
    ∙ (λ i. nat_range (ends.0 i) (ends.1 i))))
