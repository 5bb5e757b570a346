-- The outside world of a call, and what a command's puts and its text leave of it.
use Rattle.std.specs.Prelude.{◌≡◌, ℕ, ◌<◌, ◌⊎◌, List, [], ◌∷◌, length, take, All, IsTrue}
use Rattle.tm_io.specs.Shelf.{ShelfView, put_in, PutFailed, HasRoom}
use Rattle.tm_io.specs.Sink.{SinkView, took, write_failed, HasRoomFor}
use Rattle.tm_prog.specs.Made.{PutView, MadeView}

-- the shelf and the sink
pub record World : Type 0 where
  pub shelf : ShelfView
  pub sink : SinkView

abbrev pub world : ShelfView → SinkView → World
world shelf sink = record { shelf = shelf; sink = sink }

-- all is put, in this order
abbrev pub all_put : List PutView → ShelfView → ShelfView
all_put [] s = s
all_put (p ∷ puts) s = all_put puts (put_in s p.name p.bytes)

-- all is put and written
abbrev pub all_done : MadeView → World → World
all_done made w = world (all_put made.puts w.shelf) (took w.sink made.text)

-- one of the puts failed: those before it are done, what its own name has is open, and none after it was begun
abbrev pub PutsStopped : List PutView → ShelfView → ShelfView → Type 0
PutsStopped [] before after = ⊥
PutsStopped (p ∷ puts) before after = PutFailed before p.name after ⊎ PutsStopped puts (put_in before p.name p.bytes) after

-- a write failed: the sink has a proper beginning of the text
pub record WriteStopped (text : List ℕ) (before after : SinkView) : Type 0 where
  pub taken : ℕ
  pub proper : taken < length text
  pub all_else : after ≡ write_failed (took before (take taken text))

-- a put failed, and nothing was written; or all is put, and a write failed
abbrev pub IsHalfDone : MadeView → World → World → Type 0
IsHalfDone made before after =
    (PutsStopped made.puts before.shelf after.shelf × (after.sink ≡ before.sink))
    ⊎ ((after.shelf ≡ all_put made.puts before.shelf) × WriteStopped made.text before.sink after.sink)

-- the world is calm, with room for all that is to be put and written; an empty text needs none
pub record IsReady (made : MadeView) (w : World) : Type 0 where
  pub tells : IsTrue w.shelf.tells
  pub calm : IsTrue w.shelf.calm
  pub puts : All (λ p. HasRoom w.shelf p.name p.bytes) made.puts
  pub text : 0 < length made.text → HasRoomFor w.sink (length made.text)
