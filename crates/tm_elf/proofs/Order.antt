-- The order in which the faults of a file are told.
use Rattle.std.proofs.Common.{◌≡◌, ℕ, List, [], ◌∷◌, ◌++◌, refl, ap, ◌∙◌, Option, Some, None, Result, Ok, Err}
use Rattle.tm_rv.specs.declared.instr.Set.{Set}
use Rattle.tm_elf.specs.declared.fault.ElfFault.{ElfFault}
use Rattle.tm_elf.specs.declared.fault.ElfFault.TheVariants.{Short, Field, Segment, NoText, Entry, Memory}
use Rattle.tm_elf.specs.Faults.{UnlessMemory}
use Rattle.tm_elf.specs.Loads.{loads_of}
use Rattle.tm_elf.specs.Elf.{first, unless, wrong_segment, header_faults, text_faults, faults_of, memory_of, elf_of}

-- a value is there only without a fault
pub no_fault : {A : Type 0} (fault : Option ElfFault) (x y : A) → unless fault x ≡ Ok y → (fault ≡ None) × (x ≡ y)
no_fault None x y is = (refl, cc)
no_fault (Some fault) x y is = absurd (cc)

-- a fault is the one that there is
pub the_fault : {A : Type 0} (found : Option ElfFault) (x : A) (fault : ElfFault) → unless found x ≡ Err fault → found ≡ Some fault
the_fault None x fault is = cc
the_fault (Some found) x fault is = cc

-- what is first among the first is first
pub first_in : {A : Type 0} (xs ys : List (Option A)) (x : A) → first xs ≡ Some x → first (xs ++ ys) ≡ Some x
first_in [] ys x is = cc
first_in (None ∷ xs) ys x is = first_in xs ys x is
first_in (Some y ∷ xs) ys x is = is

-- where none is among the first, the rest is looked at
pub first_behind : {A : Type 0} (xs ys : List (Option A)) → first xs ≡ None → first (xs ++ ys) ≡ first ys
first_behind [] ys is = refl
first_behind (None ∷ xs) ys is = first_behind xs ys is
first_behind (Some y ∷ xs) ys is = cc

-- none is among the first, and none behind them
pub none_behind : {A : Type 0} (xs ys : List (Option A)) → first (xs ++ ys) ≡ None → (first xs ≡ None) × (first ys ≡ None)
none_behind [] ys is = (refl, is)
none_behind (None ∷ xs) ys is = none_behind xs ys is
none_behind (Some y ∷ xs) ys is = cc

-- none is in a list, not the one before the others either
pub none_at_all : {A : Type 0} (x : Option A) (xs : List (Option A)) → first (x ∷ xs) ≡ None → (x ≡ None) × (first xs ≡ None)
none_at_all None xs is = (refl, is)
none_at_all (Some y) xs is = cc

-- the header is wrong
pub told_header : (bytes : List ℕ) (least : ℕ) (s : Set) (fault : ElfFault) → unless (first (header_faults bytes)) (tt {0}) ≡ Err fault → elf_of bytes least s ≡ Err fault
unfolding elf_of
told_header bytes least s fault is =
    let found = the_fault (first (header_faults bytes)) (tt {0}) fault is in
    let told = first_in (header_faults bytes) (wrong_segment bytes ∷ text_faults bytes (loads_of bytes)) fault found in
    ap (λ (f : Option ElfFault). unless f (memory_of bytes (loads_of bytes) least s)) told

behind_header : (bytes : List ℕ) → unless (first (header_faults bytes)) (tt {0}) ≡ Ok (tt {0}) → first (faults_of bytes) ≡ first (wrong_segment bytes ∷ text_faults bytes (loads_of bytes))
behind_header bytes right =
    first_behind (header_faults bytes) (wrong_segment bytes ∷ text_faults bytes (loads_of bytes)) ((no_fault (first (header_faults bytes)) (tt {0}) (tt {0}) right).0)

-- the header is right, and a load is refused
pub told_segment : (bytes : List ℕ) (least : ℕ) (s : Set) (fault : ElfFault) → unless (first (header_faults bytes)) (tt {0}) ≡ Ok (tt {0}) → wrong_segment bytes ≡ Some fault → elf_of bytes least s ≡ Err fault
unfolding elf_of
told_segment bytes least s fault right is =
    ap (λ (f : Option ElfFault). unless f (memory_of bytes (loads_of bytes) least s))
    (behind_header bytes right ∙ ap (λ (f : Option ElfFault). first (f ∷ text_faults bytes (loads_of bytes))) is)

behind_segments : (bytes : List ℕ) → unless (first (header_faults bytes)) (tt {0}) ≡ Ok (tt {0}) → wrong_segment bytes ≡ None → first (faults_of bytes) ≡ first (text_faults bytes (loads_of bytes))
behind_segments bytes right none =
    behind_header bytes right ∙ ap (λ (f : Option ElfFault). first (f ∷ text_faults bytes (loads_of bytes))) none

-- no load is refused, and the text is wrong
pub told_text : (bytes : List ℕ) (least : ℕ) (s : Set) (fault : ElfFault) → unless (first (header_faults bytes)) (tt {0}) ≡ Ok (tt {0}) → wrong_segment bytes ≡ None → unless (first (text_faults bytes (loads_of bytes))) (tt {0}) ≡ Err fault → elf_of bytes least s ≡ Err fault
unfolding elf_of
told_text bytes least s fault right none is =
    ap (λ (f : Option ElfFault). unless f (memory_of bytes (loads_of bytes) least s))
    (behind_segments bytes right none ∙ the_fault (first (text_faults bytes (loads_of bytes))) (tt {0}) fault is)

-- nothing is wrong
pub told_memory : (bytes : List ℕ) (least : ℕ) (s : Set) → unless (first (header_faults bytes)) (tt {0}) ≡ Ok (tt {0}) → wrong_segment bytes ≡ None → unless (first (text_faults bytes (loads_of bytes))) (tt {0}) ≡ Ok (tt {0}) → elf_of bytes least s ≡ Ok (memory_of bytes (loads_of bytes) least s)
unfolding elf_of
told_memory bytes least s right none fine =
    ap (λ (f : Option ElfFault). unless f (memory_of bytes (loads_of bytes) least s))
    (behind_segments bytes right none ∙ (no_fault (first (text_faults bytes (loads_of bytes))) (tt {0}) (tt {0}) fine).0)

-- what holds at every fault holds at each but one
pub any_fault : (fault : ElfFault) (P : Type 0) → P → UnlessMemory fault P
any_fault (Short needed length) P holds = holds
any_fault (Field place) P holds = holds
any_fault (Segment index why) P holds = holds
any_fault NoText P holds = holds
any_fault (Entry value) P holds = holds
any_fault Memory P holds = tt
