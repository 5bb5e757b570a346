-- What the acts of a device come to: the lines that it raises, and what it stores.
use Rattle.std.specs.Prelude.{ℕ, List, [], ◌∷◌, replicate, flat_map}
use Rattle.tm_plant.specs.declared.plant.Act.{Act}
use Rattle.tm_plant.specs.declared.plant.Act.TheVariants.{Raise, Set, Hold}

-- the lines that an act raises
abbrev pub lines_of : Act → List ℕ
lines_of (Raise line times) = replicate times line
lines_of (Set port value) = []
lines_of (Hold line turns) = []

-- what an act stores, as pairs of a port and a value
abbrev pub values_of : Act → List (ℕ × ℕ)
values_of (Raise line times) = []
values_of (Set port value) = (port, value) ∷ []
values_of (Hold line turns) = []

-- the lines that the acts raise, in order: each as often as its act says
abbrev pub raised_by : List Act → List ℕ
raised_by acts = flat_map lines_of acts

-- what the acts store, in order
abbrev pub stored_by : List Act → List (ℕ × ℕ)
stored_by acts = flat_map values_of acts
