-- A list that becomes another, item by item.
use Rattle.std.proofs.Common.{◌≡◌, ℕ, ◌+◌, ◌<◌, List, [], ◌∷◌, ◌++◌, length, take, drop, get_or, slice_set, ap, sym, ◌∙◌, arith, length-take, append_assoc}
use Rattle.std.proofs.lemmas.List.{set_at, drop_more, take_more, get_or-append_right, get_or-drop}

module _ {X : Type 0} where
  -- the first items are those of `from`, the later ones are those before
  pub record IsCopying (from before now : List X) (count : ℕ) : Type 0 where
    pub items : now ≡ take count from ++ drop count before

  -- the next item is as it was before
  pub copying_next : (from before now : List X) (count : ℕ) (d : X) → IsCopying from before now count →
      count < length from → get_or now count d ≡ get_or before count d
  copying_next from before now count d c more =
      ap (λ l. get_or l count d) c.items
      ∙ get_or-append_right (take count from) (drop count before) count count d (omega (arith, length-take count from)) (omega arith)
      ∙ ap (λ k. get_or (drop count before) k d) (omega arith)
      ∙ get_or-drop count before 0 d
      ∙ ap (λ k. get_or before k d) (omega arith)

  -- one more item is copied
  pub copies_one : (from before now : List X) (count : ℕ) (x : X) → IsCopying from before now count →
      count < length from → length before ≡ length from → x ≡ get_or from count x →
      IsCopying from before (slice_set now count x) (count + 1)
  copies_one from before now count x c more long is = record {
    items =
        ap (λ l. slice_set l count x) (c.items ∙ ap (λ l. take count from ++ l) (drop_more before count x (omega arith)))
        ∙ set_at (take count from) (get_or before count x) (drop (count + 1) before) x count (omega (arith, length-take count from))
        ∙ sym (append_assoc (take count from) (x ∷ []) (drop (count + 1) before))
        ∙ ap (λ l. l ++ drop (count + 1) before) (
        ap (λ y. take count from ++ y ∷ []) is ∙ sym (take_more from count x more));
  }
