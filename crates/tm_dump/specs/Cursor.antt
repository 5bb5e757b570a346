-- Numbers at a place of a dump: each is read from the bytes that are left.
use Rattle.std.specs.Prelude.{◌≡◌, ℕ, zero, suc, ◌+◌, Bool, if◌then◌else◌, nat_lt, List, [], ◌∷◌, drop, take, length, slice_index, Result, Ok, Err}
use Rattle.byteorder.specs.Endian.{little_number}
use Rattle.tm_lines.specs.Steps.{◌>>=◌}
use Rattle.tm_dump.specs.declared.fault.DumpFault.{DumpFault}
use Rattle.tm_dump.specs.declared.widths.TheConstants.{WORD_BYTES, LONG_BYTES}
use Rattle.tm_dump.specs.declared.fault.DumpFault.TheVariants.{Field, Memory}

-- the place of the next byte, and the bytes from there on up to the closing digest
pub record Cursor : Type 0 where
  pub place : ℕ
  pub left : List ℕ

-- a value and what follows it, or the fault
abbrev pub Reading : Type 0 → Type 0
Reading X = Result (X × Cursor) DumpFault

-- the field here breaks its rule, or does not fit before the closing digest
abbrev pub bad : {X : Type 0} → Cursor → Reading X
bad at = Err (Field at.place)

-- so many bytes further
abbrev pub past : ℕ → Cursor → Cursor
past n at = record { place = at.place + n; left = drop n at.left }

-- the number that the bytes of the next word spell
unfoldable pub word_at : List ℕ → ℕ
word_at bytes = little_number WORD_BYTES (take WORD_BYTES bytes)

-- the number that the bytes of the next long number spell
unfoldable pub long_at : List ℕ → ℕ
long_at bytes = little_number LONG_BYTES (take LONG_BYTES bytes)

-- a number of one byte
abbrev pub byte_in : Cursor → Reading ℕ
byte_in at = if nat_lt (length at.left) 1 then bad at else Ok (slice_index at.left 0, past 1 at)

-- a number below 2 ^ 32
abbrev pub word_in : Cursor → Reading ℕ
word_in at = if nat_lt (length at.left) WORD_BYTES then bad at else Ok (word_at at.left, past WORD_BYTES at)

-- a number below 2 ^ 64
abbrev pub long_in : Cursor → Reading ℕ
long_in at = if nat_lt (length at.left) LONG_BYTES then bad at else Ok (long_at at.left, past LONG_BYTES at)

-- what was read of the field here, where that keeps the field's rule
abbrev pub ruled : {X : Type 0} → Cursor → (X → Bool) → Reading X → Reading X
ruled at rule (Ok found) = if rule found.0 then Ok found else bad at
ruled at rule (Err fault) = Err fault

abbrev pub byte_where : (ℕ → Bool) → Cursor → Reading ℕ
byte_where rule at = ruled at rule (byte_in at)

abbrev pub word_where : (ℕ → Bool) → Cursor → Reading ℕ
word_where rule at = ruled at rule (word_in at)

abbrev pub long_where : (ℕ → Bool) → Cursor → Reading ℕ
long_where rule at = ruled at rule (long_in at)

-- so many words
abbrev pub words_in : ℕ → Cursor → Reading (List ℕ)
words_in zero at = Ok ([], at)
words_in (suc n) at = do
  word ← word_in at
  words ← words_in n word.1
  Ok (word.0 ∷ words.0, words.1)

-- the fact holds, unless the fault is want of memory, of which nothing is said
abbrev pub UnlessMemory : DumpFault → Type 0 → Type 0
UnlessMemory Memory fact = Unit {0}
UnlessMemory _ fact = fact

-- the result, seen through `view`, is what the definition gives; want of memory may come in its place
abbrev pub Gives : {A B : Type 0} → (A → B) → Result A DumpFault → Result B DumpFault → Type 0
Gives view (Ok x) given = given ≡ Ok (view x)
Gives view (Err fault) given = UnlessMemory fault (given ≡ Err fault)
