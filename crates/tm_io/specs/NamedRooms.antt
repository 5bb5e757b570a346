-- The names for which a shelf in memory has room, and what stands under them.
use Rattle.std.specs.Prelude.{◌≡◌, ◌≢◌, ℕ, Bool, false, List, Option, Some, None, find, option_and_then, unwrap_or, max, nat_le}
use Rattle.std.specs.Option.{option_map}
use Rattle.std.specs.Str.{bytes_eq}

-- a name for which room was made, its content where it is there, and the longest content that fits
pub record NamedRoom : Type 0 where
  pub name : List ℕ
  pub content : Option (List ℕ)
  pub room : ℕ

-- the room is that of the name
abbrev pub has_name : List ℕ → NamedRoom → Bool
has_name name room = bytes_eq room.name name

-- the content under the name, None where it isn't there
abbrev pub content_in : List NamedRoom → List ℕ → Option (List ℕ)
content_in rooms name = option_and_then (λ room. room.content) (find (has_name name) rooms)

-- the room of the name, None where none was made
abbrev pub room_in : List NamedRoom → List ℕ → Option ℕ
room_in rooms name = option_map (λ room. room.room) (find (has_name name) rooms)

-- room was made, for so many bytes at least
abbrev pub is_enough : Option ℕ → ℕ → Bool
is_enough (Some room) bytes = nat_le bytes room
is_enough None bytes = false

-- the room made for so many bytes, where there was this much before
abbrev pub made_room : Option ℕ → ℕ → ℕ
made_room before bytes = max (unwrap_or before 0) bytes

-- the name has this content and this room now, and all other names stay
pub record ChangesOnly (old new : List NamedRoom) (name : List ℕ) (content : Option (List ℕ)) (room : Option ℕ) : Type 0 where
  pub has_content : content_in new name ≡ content
  pub has_room : room_in new name ≡ room
  pub contents_stay : (other : List ℕ) → other ≢ name → content_in new other ≡ content_in old other
  pub rooms_stay : (other : List ℕ) → other ≢ name → room_in new other ≡ room_in old other
