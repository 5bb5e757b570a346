-- What holds of a file without a fault.
use Rattle.std.proofs.Common.{◌≡◌, ℕ, zero, suc, ◌+◌, ◌<◌, Bool, true, false, if◌then◌else◌, List, [], ◌∷◌, ◌++◌, map, length, get_or, refl, sym, ◌∙◌, arith, Option, Some, None, Ok}
use Rattle.std.specs.Prelude.{option_map}
use Rattle.std.specs.List.{range_with_len}
use Rattle.std.proofs.lemmas.List.FromFn.{length-map-range_with_len, get_or-map-range_with_len}
use Rattle.tm_rv.specs.declared.instr.Set.{Set}
use Rattle.tm_image.specs.Load.{Load}
use Rattle.tm_elf.specs.declared.fault.Why.{Why}
use Rattle.tm_elf.specs.declared.fault.ElfFault.{ElfFault}
use Rattle.tm_elf.specs.declared.fault.ElfFault.TheVariants.{Segment}
use Rattle.tm_elf.specs.Fields.{header_count, header_of}
use Rattle.tm_elf.specs.Loads.{is_load, loads_before, loads_of}
use Rattle.tm_elf.specs.Elf.{first, unless, fault_if, why_refused, segment_fault, wrong_segment, no_text, wrong_entry, header_faults, text_faults, faults_of, memory_of, elf_of}
use Rattle.tm_elf.proofs.Order.{no_fault, none_behind, none_at_all}

-- a file that is read has no fault behind its header, and what is read is its memory
pub record IsRight (bytes : List ℕ) (least : ℕ) (s : Set) (load : Load) : Type 0 where
  pub segments : wrong_segment bytes ≡ None
  pub text : no_text (loads_of bytes) ≡ None
  pub entry : wrong_entry bytes (loads_of bytes) ≡ None
  pub memory : memory_of bytes (loads_of bytes) least s ≡ load

pub right : (bytes : List ℕ) (least : ℕ) (s : Set) (load : Load) → elf_of bytes least s ≡ Ok load → IsRight bytes least s load
unfolding elf_of
right bytes least s load read =
    let fine = no_fault (first (faults_of bytes)) (memory_of bytes (loads_of bytes) least s) load read in
    let behind = none_behind (header_faults bytes) (wrong_segment bytes ∷ text_faults bytes (loads_of bytes)) fine.0 in
    let segments = none_at_all (wrong_segment bytes) (text_faults bytes (loads_of bytes)) behind.1 in
    let text = none_at_all (no_text (loads_of bytes)) (wrong_entry bytes (loads_of bytes) ∷ []) segments.1 in
    let entry = none_at_all (wrong_entry bytes (loads_of bytes)) [] text.1 in
    record { segments = segments.0; text = text.0; entry = entry.0; memory = fine.1 }

-- a fault that there is not was not met
pub not_wrong : (wrong : Bool) (fault : ElfFault) → fault_if wrong fault ≡ None → wrong ≡ false
not_wrong true fault none = absurd (cc none)
not_wrong false fault none = refl

-- where nothing is first, nothing is anywhere
each_none : {A : Type 0} (xs : List (Option A)) → first xs ≡ None → (i : ℕ) (d : Option A) → i < length xs → get_or xs i d ≡ None
each_none [] none i d there = absurd (omega arith)
each_none (x ∷ xs) none zero d there = (none_at_all x xs none).0
each_none (x ∷ xs) none (suc i) d there = each_none xs (none_at_all x xs none).1 i d (omega arith)

-- no program header has a fault
pub no_segment : (bytes : List ℕ) → wrong_segment bytes ≡ None → (number : ℕ) → number < header_count bytes → segment_fault bytes number ≡ None
no_segment bytes none number there =
    let count = header_count bytes in
    let all = map (segment_fault bytes) (range_with_len 0 count) in
    let within : number < length all = omega (arith, there, length-map-range_with_len (segment_fault bytes) 0 count) in
    let same : get_or all number None ≡ segment_fault bytes number = get_or-map-range_with_len (segment_fault bytes) 0 count number number None there (omega arith) in
    sym same ∙ each_none all none number None within

mapped_none : {A B : Type 0} (f : A → B) (b : Bool) (x : Option A) → (if b then option_map f x else None) ≡ None → b ≡ true → x ≡ None
mapped_none f true None none is = refl
mapped_none f true (Some x) none is = absurd (cc none)
mapped_none f false x none is = absurd (cc is)

-- a load without a fault is not refused
pub not_refused : (bytes : List ℕ) (number : ℕ) → segment_fault bytes number ≡ None → is_load (header_of bytes number) ≡ true → why_refused bytes (loads_before bytes number) (header_of bytes number) ≡ None
not_refused bytes number none is =
    mapped_none (Segment number) (is_load (header_of bytes number)) (why_refused bytes (loads_before bytes number) (header_of bytes number)) none is
