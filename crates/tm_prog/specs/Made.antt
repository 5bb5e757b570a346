-- What a command makes, whole before any of it is put or written.
use Rattle.std.specs.Prelude.{ℕ, List, [], ◌∷◌, Option, Some, Result, Ok}
use Rattle.tm_prog.specs.declared.status.Status.{Status}

-- bytes to put under a name
pub record PutView : Type 0 where
  pub name : List ℕ
  pub bytes : List ℕ

-- what is put, in this order, and then a text to write
pub record MadeView : Type 0 where
  pub puts : List PutView
  pub text : List ℕ

-- a text alone
abbrev pub text_alone : List ℕ → MadeView
text_alone text = record { puts = []; text = text }

abbrev pub prints : List ℕ → Option (Result MadeView Status)
prints text = Some (Ok (text_alone text))

-- one put alone
abbrev pub stores : List ℕ → List ℕ → Option (Result MadeView Status)
stores name bytes = Some (Ok (record { puts = record { name = name; bytes = bytes } ∷ []; text = [] }))
