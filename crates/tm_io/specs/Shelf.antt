-- What contracts see of a shelf, and what a call leaves of it.
use Rattle.std.specs.Prelude.{◌≡◌, ◌≢◌, ℕ, ◌≤◌, Bool, if◌then◌else◌, List, length, Option, Some, IsTrue, IsSomeAnd}
use Rattle.std.specs.Str.{bytes_eq}
use Rattle.tm_io.specs.Counts.{counted}

-- whether the contents and rooms are told; the content under each name that is there; the faults of gets and
-- of puts; whether the shelf is calm; and the longest content for which there is room, where room was made
pub record ShelfView : Type 0 where
  pub tells : Bool
  pub content : List ℕ → Option (List ℕ)
  pub gets : ℕ
  pub puts : ℕ
  pub calm : Bool
  pub room : List ℕ → Option ℕ

-- these contents, but the name has these bytes
abbrev pub held : (List ℕ → Option (List ℕ)) → List ℕ → List ℕ → List ℕ → Option (List ℕ)
held content name bytes = λ other. if bytes_eq other name then Some bytes else content other

-- the bytes were put under the name; contents that are not told stay untold
abbrev pub put_in : ShelfView → List ℕ → List ℕ → ShelfView
put_in s name bytes = record s { content = if s.tells then held s.content name bytes else s.content }

-- a get failed
abbrev pub get_failed : ShelfView → ShelfView
get_failed s = record s { gets = counted s.gets }

-- a put under the name failed: what the name has is open
pub record PutFailed (old : ShelfView) (name : List ℕ) (new : ShelfView) : Type 0 where
  pub counts : new ≡ record old { content = new.content; puts = counted old.puts }
  pub others_stay : (other : List ℕ) → other ≢ name → new.content other ≡ old.content other

-- a calm shelf that tells its contents has room for the bytes under the name
pub record HasRoom (s : ShelfView) (name : List ℕ) (bytes : List ℕ) : Type 0 where
  pub tells : IsTrue s.tells
  pub calm : IsTrue s.calm
  pub room : IsSomeAnd (s.room name) (λ most. length bytes ≤ most)
