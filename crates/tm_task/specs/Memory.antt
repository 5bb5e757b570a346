-- What an address reaches, and the bytes that a load gives and a store leaves.
-- A task's text stands at address 0 and is read-only; its data stands at 10000000 hex.
use Rattle.std.specs.Prelude.{◌≡◌, ◌⊎◌, ℕ, ◌+◌, ◌-◌, ◌*◌, ◌/◌, Bool, ◌&&◌, nat_lt, nat_le, if◌then◌else◌, List, ◌++◌, length, take, drop, replicate, slice_index}
use Rattle.std.specs.Int.{w32, to_le_bytes, from_le_bytes}

-- where the data stands
abbrev pub data_start : ℕ
data_start = 0x10000000

-- the address is in the text
abbrev pub in_text : List ℕ → ℕ → Bool
in_text text address = nat_lt address (4 * length text)

-- the address is in the data
abbrev pub in_data : List ℕ → ℕ → Bool
in_data words address = nat_le data_start address && nat_lt address (data_start + 4 * length words)

-- an access is to a byte, a halfword or a word
abbrev pub IsSize : ℕ → Type 0
IsSize size = (size ≡ 1) ⊎ ((size ≡ 2) ⊎ (size ≡ 4))

-- the word that holds the byte at the address, which is in the text or in the data
abbrev pub word_at : List ℕ → List ℕ → ℕ → ℕ
word_at text words address =
    if in_text text address then slice_index text (address / 4) else slice_index words ((address - data_start) / 4)

-- the number whose little-endian bytes are the `size` bytes of the word from byte `k` on
unfoldable pub part_of : ℕ → ℕ → ℕ → ℕ
part_of word k size = from_le_bytes w32 (take size (drop k (to_le_bytes w32 word)) ++ drop size (replicate 4 0))

-- the word with its `size` bytes from byte `k` on replaced by the low bytes of a value
unfoldable pub spliced : ℕ → ℕ → ℕ → ℕ → ℕ
spliced word k size value =
    let bytes = to_le_bytes w32 word in
    from_le_bytes w32 (take k bytes ++ take size (to_le_bytes w32 value) ++ drop (k + size) bytes)
