-- Look-ups by name, and what one write at a name changes.
use Rattle.std.proofs.Common.{◌≡◌, ◌≢◌, ℕ, ◌<◌, ◌≤◌, Bool, true, false, cond, nat_lt, List, [], ◌∷◌, ◌++◌, Option, Some, None, length, get_or, find, position, slice_set, max, ◌⊎◌, inl, inr, refl, sym, ◌∙◌, ap, arith}
use Rattle.std.specs.Prelude.{if◌then◌else◌}
use Rattle.std.specs.Str.{bytes_eq}
use Rattle.std.proofs.Math.Path.{fun_ext}
use Rattle.std.specs.List.{position_or_len, slice_get}
use Rattle.std.specs.Bool.{Decides}
use Rattle.std.specs.Option.{option_or}
use Rattle.std.proofs.lemmas.Bool.Decides.{nat_tests}
use Rattle.std.proofs.lemmas.List.Folds.{find_at, find-set, find_past, find-append}
use Rattle.std.proofs.lemmas.List.Quantifiers.{position-Some}
use Rattle.std.proofs.lemmas.Option.{cond_some, slice_get_read, slice_get_past}
use Rattle.std.proofs.lemmas.Slice.Eq.{bytes_eq-Decides}
use Rattle.tm_io.specs.Shelf.{held}
use Rattle.tm_io.specs.NamedRooms.{NamedRoom, has_name, content_in, room_in, made_room, ChangesOnly}

-- the room is the first of the name, at this place
pub record IsRoomOf (rooms : List NamedRoom) (name : List ℕ) (i : ℕ) (room : NamedRoom) : Type 0 where
  pub first : i ≡ position_or_len (has_name name) rooms
  pub within : i < length rooms
  pub at_place : get_or rooms i room ≡ room
  pub named : room.name ≡ name
  pub content_is : content_in rooms name ≡ room.content
  pub room_is : room_in rooms name ≡ Some room.room

pub looked_up : (rooms : List NamedRoom) (name : List ℕ) (i : ℕ) (room : NamedRoom)
    → Some i ≡ position (has_name name) rooms → room ≡ get_or rooms i room → IsRoomOf rooms name i room
looked_up rooms name i room place is =
    let first : position_or_len (has_name name) rooms ≡ i = (cond_some _ _ i (sym place)).1 in
    let facts : (i < length rooms) × (has_name name (get_or rooms i room) ≡ true) × ((k : ℕ) → k < i → has_name name (get_or rooms k room) ≡ false) =
    position-Some (has_name name) rooms i room (sym place) in
    let passes : has_name name room ≡ true = ap (has_name name) is ∙ facts.1 in
    let found : find (has_name name) rooms ≡ Some room =
    find_at (has_name name) rooms ∙ ap (λ k. slice_get rooms k) first ∙ slice_get_read rooms (length rooms) i room refl facts.0 is in
    record {
      first = sym first;
      within = facts.0;
      at_place = sym is;
      named = (bytes_eq-Decides room.name name).0 passes;
      content_is = rw found refl;
      room_is = rw found refl;
    }

-- no room has the name
pub record IsAbsent (rooms : List NamedRoom) (name : List ℕ) : Type 0 where
  pub not_found : find (has_name name) rooms ≡ None
  pub content_is : content_in rooms name ≡ None
  pub room_is : room_in rooms name ≡ None

position_past : (n m : ℕ) → None ≡ cond (nat_lt n m) (Some n) None → m ≤ n
position_past n m h = grind (arith, nat_tests)

pub absent : (rooms : List NamedRoom) (name : List ℕ)
    → None ≡ position (has_name name) rooms → IsAbsent rooms name
absent rooms name place =
    let not_found : find (has_name name) rooms ≡ None =
    find_at (has_name name) rooms ∙ slice_get_past rooms _ (position_past _ _ place) in
    record {
      not_found = not_found;
      content_is = rw not_found refl;
      room_is = rw not_found refl;
    }

not_true : (b : Bool) → (b ≡ true → ⊥) → b ≡ false
not_true true h = absurd (h refl)
not_true false h = refl

-- a room of another name fails the test
other_name : (other name : List ℕ) (room : NamedRoom) → room.name ≡ name → other ≢ name → has_name other room ≡ false
other_name other name room named apart =
    not_true _ (λ same. apart (sym ((bytes_eq-Decides room.name other).0 same) ∙ named))

pub changed : (rooms : List NamedRoom) (name : List ℕ) (i : ℕ) (old new : NamedRoom)
    → IsRoomOf rooms name i old → new.name ≡ old.name
    → ChangesOnly rooms (slice_set rooms i new) name new.content (Some new.room)
changed rooms name i old new at same =
    let named : has_name name new ≡ true = (bytes_eq-Decides new.name name).1 (same ∙ at.named) in
    let found : find (has_name name) (slice_set rooms i new) ≡ Some new =
    find-set (has_name name) rooms i new at.first at.within named in
    let kept : (other : List ℕ) → other ≢ name → find (has_name other) (slice_set rooms i new) ≡ find (has_name other) rooms =
    λ other apart. find_past (has_name other) rooms i new old
    (ap (has_name other) at.at_place ∙ other_name other name old at.named apart)
    (other_name other name new (same ∙ at.named) apart) in
    record {
      has_content = rw found refl;
      has_room = rw found refl;
      contents_stay = λ other apart. rw (kept other apart) refl;
      rooms_stay = λ other apart. rw (kept other apart) refl;
    }

or_none : (o : Option NamedRoom) → option_or o None ≡ o
or_none None = refl
or_none (Some room) = refl

pub pushed : (rooms : List NamedRoom) (name : List ℕ) (new : NamedRoom)
    → IsAbsent rooms name → new.name ≡ name
    → ChangesOnly rooms (rooms ++ new ∷ []) name new.content (Some new.room)
pushed rooms name new away same =
    let named : has_name name new ≡ true = (bytes_eq-Decides new.name name).1 same in
    let found : find (has_name name) (rooms ++ new ∷ []) ≡ Some new =
    rw (find-append (has_name name) rooms (new ∷ []), away.not_found, named) refl in
    let kept : (other : List ℕ) → other ≢ name → find (has_name other) (rooms ++ new ∷ []) ≡ find (has_name other) rooms =
    λ other apart. rw (find-append (has_name other) rooms (new ∷ []), other_name other name new same apart) (or_none _) in
    record {
      has_content = rw found refl;
      has_room = rw found refl;
      contents_stay = λ other apart. rw (kept other apart) refl;
      rooms_stay = λ other apart. rw (kept other apart) refl;
    }

-- a content put into the room of a name
pub content_put : (rooms : List NamedRoom) (name : List ℕ) (i : ℕ) (old new : NamedRoom) (content : Option (List ℕ))
    → IsRoomOf rooms name i old → new ≡ record old { content = content }
    → ChangesOnly rooms (slice_set rooms i new) name content (room_in rooms name)
content_put rooms name i old new content at is =
    rw (at.room_is, is) (changed rooms name i old (record old { content = content }) at refl)

-- more room made for a name that has some
pub room_widened : (rooms : List NamedRoom) (name : List ℕ) (i : ℕ) (old new : NamedRoom) (bytes : ℕ)
    → IsRoomOf rooms name i old → new ≡ record old { room = max old.room bytes }
    → ChangesOnly rooms (slice_set rooms i new) name (content_in rooms name) (Some (made_room (room_in rooms name) bytes))
room_widened rooms name i old new bytes at is =
    rw (at.room_is, at.content_is, is) (changed rooms name i old (record old { room = max old.room bytes }) at refl)

-- the first room made for a name
pub room_added : (rooms : List NamedRoom) (name : List ℕ) (new : NamedRoom) (bytes : ℕ)
    → IsAbsent rooms name → new ≡ record { name = name; content = None; room = bytes }
    → ChangesOnly rooms (rooms ++ new ∷ []) name (content_in rooms name) (Some (made_room (room_in rooms name) bytes))
room_added rooms name new bytes away is =
    let made : NamedRoom = record { name = name; content = None; room = bytes } in
    let wide : max 0 bytes ≡ bytes = omega arith in
    rw (away.room_is, away.content_is, is, wide) (pushed rooms name made away refl)

same_or_apart : (b : Bool) (xs ys : List ℕ) → Decides b (xs ≡ ys) → (xs ≡ ys) ⊎ (xs ≢ ys)
same_or_apart true xs ys decides = inl (decides.0 refl)
same_or_apart false xs ys decides = inr (λ same. let wrong : false ≡ true = decides.1 same in cc)

-- a put leaves each room
pub every_room_stays : (old new : List NamedRoom) (name : List ℕ) (content : Option (List ℕ))
    → ChangesOnly old new name content (room_in old name)
    → (other : List ℕ) → room_in new other ≡ room_in old other
every_room_stays old new name content change other =
    elim (same_or_apart _ other name (bytes_eq-Decides other name)) [
      | inl same ↦ rw same change.has_room
      | inr apart ↦ change.rooms_stay other apart
    ]

held_at : (old new : List NamedRoom) (name bytes : List ℕ) (room : Option ℕ) → ChangesOnly old new name (Some bytes) room
    → (other : List ℕ) (same : Bool) → bytes_eq other name ≡ same
    → content_in new other ≡ (if same then Some bytes else content_in old other)
held_at old new name bytes room change other true is = rw ((bytes_eq-Decides other name).0 is) change.has_content
held_at old new name bytes room change other false is =
    change.contents_stay other (λ same. let wrong : bytes_eq other name ≡ true = (bytes_eq-Decides other name).1 same in cc)

-- a put leaves the contents as they were, but for the name's
pub content_held : (old new : List NamedRoom) (name bytes : List ℕ) (room : Option ℕ)
    → ChangesOnly old new name (Some bytes) room
    → content_in new ≡ held (content_in old) name bytes
content_held old new name bytes room change = fun_ext (λ other. held_at old new name bytes room change other (bytes_eq other name) refl)

-- a put leaves each room
pub rooms_same : (old new : List NamedRoom) (name : List ℕ) (content : Option (List ℕ))
    → ChangesOnly old new name content (room_in old name) → room_in new ≡ room_in old
rooms_same old new name content change = fun_ext (every_room_stays old new name content change)
