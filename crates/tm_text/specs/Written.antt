-- How far the stops of a replay were written.
use Rattle.std.specs.Prelude.{◌≡◌, ℕ, ◌<◌, List, slice_get, slice_index, Some}
use Rattle.tm_text.specs.declared.seen.Stop.{Stop}
use Rattle.tm_text.specs.declared.seen.Track.{Track}

-- the first stops, as many as the place, are of control entries before a number
abbrev pub AreBefore : List Stop → ℕ → ℕ → Type 0
AreBefore stops place seq = (k : ℕ) (stop : Stop) → k < place → slice_get stops k ≡ Some stop → stop.seq < seq

-- so are those of each task
abbrev pub AreWritten : List Track → List ℕ → ℕ → Type 0
AreWritten tracks places seq =
    (task : ℕ) (track : Track) → slice_get tracks task ≡ Some track → AreBefore track.stops (slice_index places task) seq
