-- The kept items read one after another.
use Rattle.std.proofs.Common.{◌≡◌, ℕ, ◌+◌, ◌-◌, ◌≤◌, List, [], ◌∷◌, length, drop, Some, slice_get, ap, ◌∙◌, arith}
use Rattle.std.proofs.lemmas.Grind.{common_steps}
use Rattle.std.proofs.lemmas.List.{drop_more, drop_all}
use Rattle.std.proofs.lemmas.Option.{slice_get_within, get_or_from_slice_get}
use Rattle.tm_ring.specs.Kept.{Kept, first_of, item_of}
use Rattle.tm_log.specs.Points.{items_from}

module _ {X : Type 0} where
  -- the list from an index on begins with the item there
  drop_there : (items : List X) (index : ℕ) (item : X) → slice_get items index ≡ Some item →
      drop index items ≡ item ∷ drop (index + 1) items
  drop_there items index item there =
      drop_more items index item (slice_get_within items index item there)
      ∙ ap (λ x. x ∷ drop (index + 1) items) (get_or_from_slice_get items index item item there)

  -- the item of a number that is kept, by its place
  pub there_at : (ring : Kept X) (number : ℕ) (item : X) → first_of ring ≤ number → item_of ring number ≡ Some item →
      slice_get ring.items (number - first_of ring) ≡ Some item
  there_at ring number item reached is = grind (arith, common_steps)

  -- the kept items from a number on are the item of the number and those after it
  pub items_at : (ring : Kept X) (number : ℕ) (item : X) → first_of ring ≤ number → item_of ring number ≡ Some item →
      items_from ring number ≡ item ∷ items_from ring (number + 1)
  items_at ring number item reached is =
      let next : number - first_of ring + 1 ≡ number + 1 - first_of ring = omega arith in
      drop_there ring.items (number - first_of ring) item (there_at ring number item reached is)
      ∙ ap (λ n. item ∷ drop n ring.items) next

  -- there are none from the total on
  pub items_past : (ring : Kept X) (number : ℕ) → length ring.items ≤ ring.total → ring.total ≤ number →
      items_from ring number ≡ []
  items_past ring number among past =
      let all : length ring.items ≤ number - first_of ring = omega arith in
      drop_all (number - first_of ring) ring.items all
