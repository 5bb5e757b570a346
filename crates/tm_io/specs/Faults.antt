-- What contracts see of a shelf over files.
use Rattle.std.specs.Prelude.{ℕ, false, None}
use Rattle.tm_io.specs.Shelf.{ShelfView}
use Rattle.tm_io.specs.Sink.{SinkView}

-- the faults of gets and of puts
pub record Faults : Type 0 where
  pub gets : ℕ
  pub puts : ℕ

-- what a shelf with these faults shows: it tells neither contents nor rooms
abbrev pub untold_shelf : Faults → ShelfView
untold_shelf s = record { tells = false; content = λ _. None; gets = s.gets; puts = s.puts; calm = false; room = λ _. None }

-- what a sink with so many faults shows: it tells no bytes
abbrev pub untold_sink : ℕ → SinkView
untold_sink faults = record { bytes = None; faults = faults; calm = false; room = 0 }
