-- The fields of an executable: numbers with their lowest byte first, at places of the file.
use Rattle.std.specs.Prelude.{ℕ, ◌+◌, ◌*◌, List, drop}
use Rattle.byteorder.specs.Endian.{little_number}
use Rattle.tm_elf.specs.declared.header.ProgramHeader.{ProgramHeader}

-- the number in the two bytes at a place
unfoldable pub half_at : List ℕ → ℕ → ℕ
half_at bytes place = little_number 2 (drop place bytes)

-- the number in the four bytes at a place
unfoldable pub word_at : List ℕ → ℕ → ℕ
word_at bytes place = little_number 4 (drop place bytes)

-- the address of the first instruction
abbrev pub entry_of : List ℕ → ℕ
entry_of bytes = word_at bytes 24

-- how many program headers the file has
abbrev pub header_count : List ℕ → ℕ
header_count bytes = half_at bytes 44

-- the place of the program header of this number
abbrev pub header_place : List ℕ → ℕ → ℕ
header_place bytes number = word_at bytes 28 + 32 * number

-- the program header at a place
abbrev pub header_at : List ℕ → ℕ → ProgramHeader
header_at bytes place = record {
  kind = word_at bytes place;
  offset = word_at bytes (place + 4);
  address = word_at bytes (place + 8);
  file_size = word_at bytes (place + 16);
  memory_size = word_at bytes (place + 20);
}

-- the program header of this number
abbrev pub header_of : List ℕ → ℕ → ProgramHeader
header_of bytes number = header_at bytes (header_place bytes number)
