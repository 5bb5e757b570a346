-- Plants that the examples share.
use Rattle.std.specs.Prelude.{ℕ, List, [], ◌∷◌, codes, replicate}
use Rattle.tm_plant.specs.declared.plant.Act.{Act}
use Rattle.tm_plant.specs.declared.plant.Act.TheVariants.{Raise, Set, Hold}

-- a plant's header, and eight devices that do nothing
abbrev pub eight_devices : List ℕ
eight_devices = codes "tmplant 1\ndevice 0\ndevice 1\ndevice 2\ndevice 3\ndevice 4\ndevice 5\ndevice 6\ndevice 7\n"

-- a device that raises and stores, and one that waits
abbrev pub two_devices : List (List Act)
two_devices = (Raise 2 3 ∷ Set 3 7 ∷ Raise 0 1 ∷ []) ∷ (Hold 2 9 ∷ []) ∷ []

-- a device of so many acts
abbrev pub with_acts : ℕ → List (List Act)
with_acts number = replicate number (Set 0 0) ∷ []
