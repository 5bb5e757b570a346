-- What contracts see of a sink, and what a write leaves of it.
use Rattle.std.specs.Prelude.{◌≡◌, ℕ, ◌-◌, ◌≤◌, Bool, List, ◌++◌, length, Option, IsTrue, IsSome}
use Rattle.std.specs.Option.{option_map}
use Rattle.tm_io.specs.Counts.{counted}

-- the bytes so far, where the sink tells them; the faults; whether the sink is calm; and how many more bytes
-- there is room for, in a sink that tells its bytes
pub record SinkView : Type 0 where
  pub bytes : Option (List ℕ)
  pub faults : ℕ
  pub calm : Bool
  pub room : ℕ

-- the piece was appended; bytes that are not told stay untold
abbrev pub took : SinkView → List ℕ → SinkView
took k piece = record k { bytes = option_map (λ bytes. bytes ++ piece) k.bytes; room = k.room - length piece }

-- a write failed, and appended nothing
abbrev pub write_failed : SinkView → SinkView
write_failed k = record k { faults = counted k.faults }

-- a calm sink that tells its bytes has room for so many
pub record HasRoomFor (k : SinkView) (bytes : ℕ) : Type 0 where
  pub tells : IsSome k.bytes
  pub calm : IsTrue k.calm
  pub room : bytes ≤ k.room
