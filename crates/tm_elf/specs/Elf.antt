-- The task that an ELF32 executable is, or the first of its faults.
use Rattle.std.specs.Prelude.{ℕ, ◌≤◌, ◌+◌, ◌*◌, ◌%◌, Bool, not, ◌&&◌, ◌||◌, ◌==◌, nat_lt, nat_le, max, if◌then◌else◌, List, [], ◌∷◌, ◌++◌, length, map, take, find, slice_index, Option, Some, None, option_map, Result, Ok, Err}
use Rattle.std.specs.List.{list_any, range_with_len}
use Rattle.std.specs.Str.{bytes_eq}
use Rattle.tm_marker.specs.declared.body.TheConstants.{DATA_START}
use Rattle.tm_rv.specs.declared.instr.Set.{Set}
use Rattle.tm_image.specs.Load.{Load}
use Rattle.tm_elf.specs.declared.header.ProgramHeader.{ProgramHeader}
use Rattle.tm_elf.specs.declared.header.TheConstants.{TEXT_START}
use Rattle.tm_elf.specs.declared.fault.Why.{Why}
use Rattle.tm_elf.specs.declared.fault.Why.TheVariants.{PastFile, MoreInFile, Outside, Overlap}
use Rattle.tm_elf.specs.declared.fault.ElfFault.{ElfFault}
use Rattle.tm_elf.specs.declared.fault.ElfFault.TheVariants.{Short, Field, Segment, NoText, Entry}
use Rattle.tm_elf.specs.Fields.{half_at, word_at, entry_of, header_count, header_place, header_of}
use Rattle.tm_elf.specs.Loads.{is_load, is_past_file, has_more_in_file, is_within, overlaps, loads_before, loads_of, words_up_to, loaded_words}

-- the first that is there
abbrev pub first : {A : Type 0} → List (Option A) → Option A
first [] = None
first (None ∷ others) = first others
first (Some x ∷ others) = Some x

-- the value, unless there is a fault
abbrev pub unless : {A : Type 0} → Option ElfFault → A → Result A ElfFault
unless None x = Ok x
unless (Some fault) x = Err fault

-- the fault, where something is wrong
abbrev pub fault_if : Bool → ElfFault → Option ElfFault
fault_if wrong fault = if wrong then Some fault else None

-- the file has fewer bytes than are needed
abbrev pub short_of : ℕ → List ℕ → Option ElfFault
short_of needed bytes = fault_if (nat_lt (length bytes) needed) (Short needed (length bytes))

-- the fields of the header that say what kind of file it is: the place of each, and whether it is right
abbrev pub kind_fields : List ℕ → List (ℕ × Bool)
kind_fields bytes =
    (0, bytes_eq (take 4 bytes) (0x7f ∷ 0x45 ∷ 0x4c ∷ 0x46 ∷ []))
    ∷ (4, slice_index bytes 4 == 1)
    ∷ (5, slice_index bytes 5 == 1)
    ∷ (6, slice_index bytes 6 == 1)
    ∷ (16, half_at bytes 16 == 2)
    ∷ (18, half_at bytes 18 == 243)
    ∷ (20, word_at bytes 20 == 1)
    ∷ (42, half_at bytes 42 == 32)
    ∷ (44, nat_le 1 (header_count bytes) && nat_le (header_count bytes) 64)
    ∷ []

-- the place of the first field that is wrong
abbrev pub wrong_place : List (ℕ × Bool) → Option ℕ
wrong_place fields = option_map (λ field. field.0) (find (λ field. not field.1) fields)

-- the first of the header's fields that is wrong
abbrev pub wrong_field : List ℕ → Option ElfFault
wrong_field bytes = option_map Field (wrong_place (kind_fields bytes))

-- the header is whole, and so are the program headers, of which there are no more than there may be
pub record HasHeaders (bytes : List ℕ) : Type 0 where
  pub whole : 52 ≤ length bytes
  pub all : header_place bytes (header_count bytes) ≤ length bytes
  pub few : header_count bytes ≤ 64

-- why a load is refused, if it is: by itself, or beside the loads before it
abbrev pub why_refused : List ℕ → List ProgramHeader → ProgramHeader → Option Why
why_refused bytes earlier load =
    if is_past_file bytes load then Some PastFile
    else (if has_more_in_file load then Some MoreInFile
    else (if not (is_within TEXT_START load || is_within DATA_START load) then Some Outside
    else (if list_any (overlaps load) earlier then Some Overlap else None)))

-- the fault of the program header of this number, where it is one of a load
abbrev pub segment_fault : List ℕ → ℕ → Option ElfFault
segment_fault bytes number =
    if is_load (header_of bytes number)
    then option_map (Segment number) (why_refused bytes (loads_before bytes number) (header_of bytes number))
    else None

-- the first load that is refused
abbrev pub wrong_segment : List ℕ → Option ElfFault
wrong_segment bytes = first (map (segment_fault bytes) (range_with_len 0 (header_count bytes)))

-- no load is in the text's window
abbrev pub no_text : List ProgramHeader → Option ElfFault
no_text loads = fault_if (not (list_any (is_within TEXT_START) loads)) NoText

-- the entry is no address of a word of the text
abbrev pub wrong_entry : List ℕ → List ProgramHeader → Option ElfFault
wrong_entry bytes loads = fault_if
    (not (entry_of bytes % 4 == 0) || nat_le (4 * words_up_to TEXT_START loads) (entry_of bytes))
    (Entry (entry_of bytes))

-- what may be wrong with the header, and with where the program headers end
abbrev pub header_faults : List ℕ → List (Option ElfFault)
header_faults bytes =
    short_of 52 bytes
    ∷ wrong_field bytes
    ∷ short_of (header_place bytes (header_count bytes)) bytes
    ∷ []

-- what may be wrong with the text of these loads
abbrev pub text_faults : List ℕ → List ProgramHeader → List (Option ElfFault)
text_faults bytes loads = no_text loads ∷ wrong_entry bytes loads ∷ []

-- the faults of the file, in the order in which they are told
abbrev pub faults_of : List ℕ → List (Option ElfFault)
faults_of bytes = header_faults bytes ++ wrong_segment bytes ∷ text_faults bytes (loads_of bytes)

-- the text up to the last load in its window, with this set of instructions; the data likewise, with at least
-- so many words
abbrev pub memory_of : List ℕ → List ProgramHeader → ℕ → Set → Load
memory_of bytes loads least s = record {
  entry = entry_of bytes;
  text = loaded_words bytes loads TEXT_START (words_up_to TEXT_START loads);
  set = s;
  words = loaded_words bytes loads DATA_START (max least (words_up_to DATA_START loads));
}

-- what a task is loaded with from the file, with at least so many data words and this set of instructions, or
-- the first fault
unfoldable pub elf_of : List ℕ → ℕ → Set → Result Load ElfFault
elf_of bytes least s = unless (first (faults_of bytes)) (memory_of bytes (loads_of bytes) least s)
