-- What is read from a file without a fault is what a task can be loaded from.
use Rattle.std.proofs.Common.{◌≡◌, ℕ, ◌+◌, ◌-◌, ◌*◌, ◌/◌, ◌%◌, ◌<◌, ◌≤◌, Bool, true, false, not, ◌||◌, ◌==◌, nat_le, max, List, [], ◌∷◌, length, map, fold, All, refl, subst, arith, None, Ok}
use Rattle.std.specs.Prelude.{filter}
use Rattle.std.specs.List.{list_any, range_with_len}
use Rattle.std.proofs.lemmas.Bool.Decides.{nat_tests}
use Rattle.std.proofs.lemmas.List.Elements.{All-head, All-tail, filter_passes}
use Rattle.std.proofs.lemmas.List.FromFn.{length-map-range_with_len}
use Rattle.tm_marker.specs.declared.body.TheConstants.{DATA_START}
use Rattle.tm_marker.specs.declared.shape.TheConstants.{MOST_WORDS}
use Rattle.tm_rv.specs.declared.instr.Set.{Set}
use Rattle.tm_image.specs.Load.{Load}
use Rattle.tm_image.specs.Image.{IsLoad}
use Rattle.tm_elf.specs.declared.fault.ElfFault.TheVariants.{NoText, Entry}
use Rattle.tm_elf.specs.declared.header.ProgramHeader.{ProgramHeader}
use Rattle.tm_elf.specs.declared.header.TheConstants.{TEXT_START}
use Rattle.tm_elf.specs.Fields.{entry_of, header_count, header_of}
use Rattle.tm_elf.specs.Loads.{is_load, is_within, end_of, reach, words_up_to, loads_of, loaded_word, loaded_words}
use Rattle.tm_elf.specs.Elf.{no_text, wrong_entry, memory_of, elf_of}
use Rattle.tm_elf.proofs.Right.{right, not_wrong}

-- the greatest reach of the loads, or this number where it is greater
abbrev greatest : ℕ → ℕ → List ProgramHeader → ℕ
greatest start most loads = fold (λ most load. max most (reach start load)) most loads

at_least : (start most : ℕ) (loads : List ProgramHeader) → most ≤ greatest start most loads
at_least start most [] = omega arith
at_least start most (load ∷ loads) = omega (arith, at_least start (max most (reach start load)) loads)

-- a load in the window reaches into it
reaches : (start : ℕ) (load : ProgramHeader) → is_load load ≡ true → is_within start load ≡ true → 0 < reach start load
reaches start load is within = rw within (grind (arith, nat_tests, is, within))

one_more_load : (start most : ℕ) (load : ProgramHeader) (loads : List ProgramHeader) (b : Bool) → is_within start load ≡ b → is_load load ≡ true → (list_any (is_within start) loads ≡ true → 0 < greatest start (max most (reach start load)) loads) → list_any (is_within start) (load ∷ loads) ≡ true → 0 < greatest start most (load ∷ loads)
one_more_load start most load loads true within is behind any =
    let here = reaches start load is within in
    omega (arith, here, at_least start (max most (reach start load)) loads)
one_more_load start most load loads false within is behind any = behind (rw within at any)

-- some load in the window reaches into it
some_reach : (start most : ℕ) (loads : List ProgramHeader) → All (λ load. is_load load ≡ true) loads → list_any (is_within start) loads ≡ true → 0 < greatest start most loads
some_reach start most [] each any = absurd (cc any)
some_reach start most (load ∷ loads) each any =
    one_more_load start most load loads (is_within start load) refl (All-head (λ load. is_load load ≡ true) load loads each)
    (some_reach start (max most (reach start load)) loads (All-tail (λ load. is_load load ≡ true) load loads each)) any

few_reach : (start : ℕ) (load : ProgramHeader) → reach start load ≤ 4 * MOST_WORDS
few_reach start load = by_test (is_within start load) refl
  where
    by_test : (b : Bool) → is_within start load ≡ b → reach start load ≤ 4 * MOST_WORDS
    by_test true within = rw within (grind (arith, nat_tests, within))
    by_test false within = rw within (omega arith)

at_most : (start most : ℕ) (loads : List ProgramHeader) → most ≤ 4 * MOST_WORDS → greatest start most loads ≤ 4 * MOST_WORDS
at_most start most [] few = few
at_most start most (load ∷ loads) few =
    at_most start (max most (reach start load)) loads (omega (arith, few, few_reach start load))

pub few_words_up_to : (start : ℕ) (loads : List ProgramHeader) → words_up_to start loads ≤ MOST_WORDS
few_words_up_to start loads = omega (arith, at_most start 0 loads (omega arith))

some_text : (loads : List ProgramHeader) → All (λ load. is_load load ≡ true) loads → no_text loads ≡ None → 0 < words_up_to TEXT_START loads
some_text loads each none =
    let absent = not_wrong (not (list_any (is_within TEXT_START) loads)) NoText none in
    let any : list_any (is_within TEXT_START) loads ≡ true = grind (arith, absent) in
    omega (arith, some_reach TEXT_START 0 loads each any)

abbrev IsEntry : ℕ → ℕ → Type 0
IsEntry entry words = (entry % 4 ≡ 0) × (entry < 4 * words)

is_entry : (bytes : List ℕ) (loads : List ProgramHeader) → wrong_entry bytes loads ≡ None → IsEntry (entry_of bytes) (words_up_to TEXT_START loads)
is_entry bytes loads none =
    let right = not_wrong (not (entry_of bytes % 4 == 0) || nat_le (4 * words_up_to TEXT_START loads) (entry_of bytes)) (Entry (entry_of bytes)) none in
    of_tests (entry_of bytes) (words_up_to TEXT_START loads) right
  where
    of_tests : (entry words : ℕ) → (not (entry % 4 == 0) || nat_le (4 * words) entry) ≡ false → IsEntry entry words
    of_tests entry words right = (grind (arith, nat_tests, right), grind (arith, nat_tests, right))

-- so many words are so many
pub length_words : (bytes : List ℕ) (loads : List ProgramHeader) (start count : ℕ) → length (loaded_words bytes loads start count) ≡ count
length_words bytes loads start count = length-map-range_with_len (λ index. loaded_word bytes loads (start + 4 * index)) 0 count

-- what is read is what a task can be loaded from
pub is_sound : (bytes : List ℕ) (least : ℕ) (s : Set) (load : Load) → 0 < least → least ≤ MOST_WORDS → elf_of bytes least s ≡ Ok load → IsLoad load
is_sound bytes least s load some few read =
    let fine = right bytes least s load read in
    let loads = loads_of bytes in
    let each = filter_passes is_load (map (header_of bytes) (range_with_len 0 (header_count bytes))) in
    let text = length_words bytes loads TEXT_START (words_up_to TEXT_START loads) in
    let words = length_words bytes loads DATA_START (max least (words_up_to DATA_START loads)) in
    let entry = is_entry bytes loads fine.entry in
    let sound : IsLoad (memory_of bytes loads least s) = record {
      some_text = omega (arith, text, some_text loads each fine.text);
      short_text = omega (arith, text, few_words_up_to TEXT_START loads);
      some_words = omega (arith, words, some);
      few_words = omega (arith, words, few, few_words_up_to DATA_START loads);
      aligned = entry.0;
      inside = omega (arith, text, entry.1);
    } in
    subst IsLoad fine.memory sound
