-- The loads of an executable: where each lies, and the bytes that they put into a task's memory.
use Rattle.std.specs.Prelude.{ℕ, ◌+◌, ◌-◌, ◌*◌, ◌/◌, Bool, not, ◌&&◌, ◌==◌, nat_lt, nat_le, max, if◌then◌else◌, List, [], ◌∷◌, length, map, filter, find, fold, slice_index}
use Rattle.std.specs.List.{range_with_len}
use Rattle.std.specs.Option.{option_map_or}
use Rattle.byteorder.specs.Endian.{little_number}
use Rattle.tm_marker.specs.declared.shape.TheConstants.{MOST_WORDS}
use Rattle.tm_elf.specs.declared.header.ProgramHeader.{ProgramHeader}
use Rattle.tm_elf.specs.Fields.{header_count, header_of}

-- a header of something to load: its type is 1, and it has bytes in memory
abbrev pub is_load : ProgramHeader → Bool
is_load header = header.kind == 1 && not (header.memory_size == 0)

-- the address behind the last byte
abbrev pub end_of : ProgramHeader → ℕ
end_of load = load.address + load.memory_size

-- the load has bytes in the file, and not all of them are there
abbrev pub is_past_file : List ℕ → ProgramHeader → Bool
is_past_file bytes load = not (load.file_size == 0) && nat_lt (length bytes) (load.offset + load.file_size)

-- there are more bytes in the file than in memory
abbrev pub has_more_in_file : ProgramHeader → Bool
has_more_in_file load = nat_lt load.memory_size load.file_size

-- all bytes are in the window from an address on
abbrev pub is_within : ℕ → ProgramHeader → Bool
is_within start load = nat_le start load.address && nat_le (end_of load) (start + 4 * MOST_WORDS)

-- the byte at an address is one of the load
abbrev pub covers : ℕ → ProgramHeader → Bool
covers address load = nat_le load.address address && nat_lt address (end_of load)

-- some byte is one of both loads
abbrev pub overlaps : ProgramHeader → ProgramHeader → Bool
overlaps load other = nat_lt load.address (end_of other) && nat_lt other.address (end_of load)

-- the loads among the program headers before the one of this number
abbrev pub loads_before : List ℕ → ℕ → List ProgramHeader
loads_before bytes number = filter is_load (map (header_of bytes) (range_with_len 0 number))

-- the loads of the file
abbrev pub loads_of : List ℕ → List ProgramHeader
loads_of bytes = loads_before bytes (header_count bytes)

-- how many bytes of a window reach up to the end of a load, if the load is in that window
abbrev pub reach : ℕ → ProgramHeader → ℕ
reach start load = if is_within start load then end_of load - start else 0

-- how many bytes of a window reach up to the greatest end of a load in it
abbrev pub greatest_reach : ℕ → List ProgramHeader → ℕ
greatest_reach start loads = fold (λ most load. max most (reach start load)) 0 loads

-- how many words those are
abbrev pub words_up_to : ℕ → List ProgramHeader → ℕ
words_up_to start loads = (greatest_reach start loads + 3) / 4

-- the byte of a load at an address that it covers: the file's bytes come first, and then zeros
abbrev pub load_byte : List ℕ → ℕ → ProgramHeader → ℕ
load_byte bytes address load =
    if nat_lt (address - load.address) load.file_size
    then slice_index bytes (load.offset + (address - load.address))
    else 0

-- the byte at an address: that of the load that covers it, or 0
abbrev pub byte_at : List ℕ → List ProgramHeader → ℕ → ℕ
byte_at bytes loads address = option_map_or (load_byte bytes address) (find (covers address) loads) 0

-- the word at an address
abbrev pub loaded_word : List ℕ → List ProgramHeader → ℕ → ℕ
loaded_word bytes loads address =
    little_number 4 (map (byte_at bytes loads) (range_with_len address 4))

-- so many words from an address on
abbrev pub loaded_words : List ℕ → List ProgramHeader → ℕ → ℕ → List ℕ
loaded_words bytes loads start count =
    map (λ index. loaded_word bytes loads (start + 4 * index)) (range_with_len 0 count)
