-- What contracts see of a shelf in memory.
use Rattle.std.specs.Prelude.{ℕ, Bool, true, List, ◌||◌, ◌==◌, not, length, is_none}
use Rattle.tm_io.specs.Counts.{counted, is_listed}
use Rattle.tm_io.specs.Shelf.{ShelfView}
use Rattle.tm_io.specs.NamedRooms.{NamedRoom, content_in, room_in, is_enough}

-- `calls` gets and puts so far, the numbers of the calls that fail, the faults of gets and of puts,
-- and the names with their contents and rooms
pub record ShelfState : Type 0 where
  pub calls : ℕ
  pub fail : List ℕ
  pub gets : ℕ
  pub puts : ℕ
  pub rooms : List NamedRoom

-- the next call is made to fail, or the name isn't there
abbrev pub refuses_get : ShelfState → List ℕ → Bool
refuses_get s name = is_listed s.fail (counted s.calls) || is_none (content_in s.rooms name)

-- the next call is made to fail, or the name has no room, or less than the bytes want
abbrev pub refuses_put : ShelfState → List ℕ → List ℕ → Bool
refuses_put s name bytes =
    is_listed s.fail (counted s.calls) || not (is_enough (room_in s.rooms name) (length bytes))

-- what it shows as a shelf: all, and it is calm where no call is made to fail
abbrev pub shelf_seen : ShelfState → ShelfView
shelf_seen s = record {
  tells = true;
  content = content_in s.rooms;
  gets = s.gets;
  puts = s.puts;
  calm = length s.fail == 0;
  room = room_in s.rooms;
}
