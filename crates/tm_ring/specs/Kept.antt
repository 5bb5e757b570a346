-- The last items of a list that only grows, with how many items it has had.
use Rattle.std.specs.Prelude.{◌≡◌, ℕ, ◌+◌, ◌-◌, ◌<◌, ◌≤◌, ◌^◌, if◌then◌else◌, nat_lt, List, [], ◌∷◌, ◌++◌, length, slice_get, Option, None, refl}
use Rattle.std.specs.Coded.{Coded, code_by, coded×, coded_list, coded_ℕ}
use Rattle.circular_buffer.specs.Buffer.{keep_last}
use Rattle.tm_marker.specs.declared.shape.TheConstants.{MOST_ITEMS}

-- the kept items, oldest first; how many items there were in all; and how many are kept at most
pub record Kept (X : Type 0) : Type 0 where
  pub items : List X
  pub total : ℕ
  pub cap : ℕ

module _ {X : Type 0} where
  abbrev pub kept : List X → ℕ → ℕ → Kept X
  kept items total cap = record { items = items; total = total; cap = cap }

  -- the number of the oldest kept item, where the first item of all has number 0
  abbrev pub first_of : Kept X → ℕ
  first_of ring = ring.total - length ring.items

  -- the item of a number, where it is kept
  abbrev pub item_of : Kept X → ℕ → Option X
  item_of ring number =
      if nat_lt number (first_of ring) then None else slice_get ring.items (number - first_of ring)

  -- one more item: the oldest goes where as many as the capacity are kept
  abbrev pub pushed : Kept X → X → Kept X
  pushed ring item = kept (keep_last ring.cap (ring.items ++ item ∷ [])) (ring.total + 1) ring.cap

  -- the item of this number is kept
  pub record IsKeptAt (ring : Kept X) (number : ℕ) : Type 0 where
    pub reached : first_of ring ≤ number
    pub made : number < ring.total

  -- what every ring keeps: a capacity that a ring can have, and no more items than it or than there were
  pub record IsRing (ring : Kept X) : Type 0 where
    pub some : 0 < ring.cap
    pub few : ring.cap ≤ MOST_ITEMS
    pub fit : length ring.items ≤ ring.cap
    pub among : length ring.items ≤ ring.total
    pub counted : ring.total ≤ 2 ^ 53

  -- the ring holds the last items of a list, and its length as the total
  pub record Holds (ring : Kept X) (all : List X) : Type 0 where
    pub items : ring.items ≡ keep_last ring.cap all
    pub total : ring.total ≡ length all

  abbrev pub kept_code : Coded X → Coded (Kept X)
  kept_code c =
      code_by (List X × (ℕ × ℕ)) (coded× (coded_list c) (coded× coded_ℕ coded_ℕ))
      (λ k. (k.items, (k.total, k.cap))) (λ p. kept p.0 p.1.0 p.1.1) (λ _. refl)
