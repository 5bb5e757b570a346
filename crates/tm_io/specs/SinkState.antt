-- What contracts see of a sink in memory.
use Rattle.std.specs.Prelude.{ℕ, Bool, List, Some, ◌||◌, ◌==◌, length, nat_lt}
use Rattle.tm_io.specs.Counts.{counted, is_listed}
use Rattle.tm_io.specs.Sink.{SinkView}

-- `calls` writes so far, the numbers of the writes that fail, the count of faults, the most bytes
-- that a write takes, the bytes held, and how many more there is room for
pub record SinkState : Type 0 where
  pub calls : ℕ
  pub fail : List ℕ
  pub faults : ℕ
  pub most : ℕ
  pub bytes : List ℕ
  pub room : ℕ

-- the next write is made to fail, or the piece is longer than the room
abbrev pub refuses_write : SinkState → List ℕ → Bool
refuses_write s piece = is_listed s.fail (counted s.calls) || nat_lt s.room (length piece)

-- what it shows as a sink: all, and it is calm where no write is made to fail
abbrev pub sink_seen : SinkState → SinkView
sink_seen s = record { bytes = Some s.bytes; faults = s.faults; calm = length s.fail == 0; room = s.room }
