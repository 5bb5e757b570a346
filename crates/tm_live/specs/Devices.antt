-- What a device of a drive does.
use Rattle.std.specs.Prelude.{◌≡◌, ℕ, ◌<◌, List, ◌++◌, map, length, slice_index_or}
use Rattle.tm_irq.specs.declared.views.Raise.{Raise}
use Rattle.tm_irq.specs.declared.views.Store.{Store}
use Rattle.tm_irq.specs.Lists.{DeviceLists}
use Rattle.tm_plant.specs.declared.plant.Act.{Act}
use Rattle.tm_plant.specs.Plant.{acts_of}
use Rattle.tm_plant.specs.Plays.{raised_by, stored_by}

-- the list of raises goes on by raises of these lines, in order
pub record GrewByRaises (lines : List ℕ) (before after : List Raise) : Type 0 where
  pub more : List Raise
  pub kept : after ≡ before ++ more
  pub raised : map (λ r. r.line) more ≡ lines

-- the store of a value in a port
abbrev pub store_in : ℕ × ℕ → Store
store_in (port, value) = record { port = port; value = value }

-- the list of stores goes on by stores of these values, each in its port, in order
abbrev pub GrewByStores : List (ℕ × ℕ) → List Store → List Store → Type 0
GrewByStores values before after = after ≡ before ++ map store_in values

-- a device's seat raised these lines and stored these values, and is the device's at its table as before
pub record Played (lines : List ℕ) (values : List (ℕ × ℕ)) (before after : DeviceLists) : Type 0 where
  pub table : after.table ≡ before.table
  pub device : after.device ≡ before.device
  pub raises : GrewByRaises lines before.raises after.raises
  pub stores : GrewByStores values before.stores after.stores

-- each seat did what a plant gives the device of its number
abbrev pub AllPlayed : List (List Act) → List DeviceLists → List DeviceLists → Type 0
AllPlayed plant before after = (device : ℕ) (d : DeviceLists) → device < length before →
    Played (raised_by (acts_of plant device)) (stored_by (acts_of plant device)) (slice_index_or before device d) (slice_index_or after device d)
