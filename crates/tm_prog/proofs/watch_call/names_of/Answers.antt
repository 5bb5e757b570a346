use Rattle.std.proofs.Common.{rules, ◌≡◌, ℕ, List, [], ◌∷◌, ◌++◌, ap₂, sym, ◌∙◌, append_assoc, arith}
use Rattle.std.proofs.lemmas.List.FromFn.{map-range_with_len_more}
use Rattle.tm_prog.specs.WatchCommand.{observer_name}
use Rattle.tm_prog.proofs.watch_call.names_of.Goals as goal

pub loop-number-preserved : goal.loop-number-preserved
loop-number-preserved c =
    let n = c.loop-number.number-counter in
    let named : c.new.result ≡ observer_name c.args.prefix.now n = search (rules, append_assoc) in
    c.in_ok-push.ensures.items
    ∙ ap₂ (λ (xs : List (List ℕ)) (x : List ℕ). xs ++ x ∷ []) c.loop-number.invariant named
    ∙ sym (map-range_with_len_more (observer_name c.args.prefix.now) 0 n n (omega arith))
