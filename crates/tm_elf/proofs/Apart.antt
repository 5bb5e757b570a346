-- The loads of a file without a fault have no byte in common.
use Rattle.std.proofs.Common.{◌≡◌, ℕ, zero, suc, ◌+◌, ◌<◌, Bool, true, false, not, ◌||◌, if◌then◌else◌, List, [], ◌∷◌, length, get_or, refl, sym, subst, add-one, ◌∙◌, arith, Option, Some, None, Ok}
use Rattle.std.specs.Prelude.{AllPairs}
use Rattle.std.specs.List.{list_any}
use Rattle.std.proofs.lemmas.Bool.Decides.{nat_tests}
use Rattle.std.proofs.lemmas.List.Folds.{list_any_at}
use Rattle.std.proofs.lemmas.List.Quantifiers.{all_pairs_push}
use Rattle.tm_rv.specs.declared.instr.Set.{Set}
use Rattle.tm_image.specs.Load.{Load}
use Rattle.tm_marker.specs.declared.body.TheConstants.{DATA_START}
use Rattle.tm_elf.specs.declared.fault.Why.{Why}
use Rattle.tm_elf.specs.declared.fault.Why.TheVariants.{PastFile, MoreInFile, Outside, Overlap}
use Rattle.tm_elf.specs.declared.header.TheConstants.{TEXT_START}
use Rattle.tm_elf.specs.declared.header.ProgramHeader.{ProgramHeader}
use Rattle.tm_elf.specs.Fields.{header_count, header_of}
use Rattle.tm_elf.specs.Loads.{is_load, is_past_file, has_more_in_file, is_within, covers, overlaps, loads_before, loads_of}
use Rattle.tm_elf.specs.Elf.{why_refused, segment_fault, elf_of}
use Rattle.tm_elf.specs.Laws.{AreApart}
use Rattle.tm_elf.proofs.Steps.{loads_more, loads_kept}
use Rattle.tm_elf.proofs.Right.{right, no_segment, not_refused}

-- what does not overlap is apart
apart : (load other : ProgramHeader) → overlaps other load ≡ false → AreApart load other
apart load other none address one both = absurd (grind (arith, nat_tests, none, one, both))

false_unless : (b : Bool) → (b ≡ true → ⊥) → b ≡ false
false_unless true not_true = absurd (not_true refl)
false_unless false not_true = refl

-- the last of four tests fails too
last_of_four : (a b c d : Bool) (w x y z : Why) → (if a then Some w else (if b then Some x else (if c then Some y else (if d then Some z else None)))) ≡ None → d ≡ false
last_of_four true b c d w x y z none = absurd (cc none)
last_of_four false true c d w x y z none = absurd (cc none)
last_of_four false false true d w x y z none = absurd (cc none)
last_of_four false false false true w x y z none = absurd (cc none)
last_of_four false false false false w x y z none = refl

-- a load that is not refused overlaps none of those before it
no_overlap : (bytes : List ℕ) (earlier : List ProgramHeader) (load : ProgramHeader) → why_refused bytes earlier load ≡ None → (k : ℕ) (d : ProgramHeader) → k < length earlier → overlaps load (get_or earlier k d) ≡ false
no_overlap bytes earlier load none k d there =
    let last = last_of_four (is_past_file bytes load) (has_more_in_file load) (not (is_within TEXT_START load || is_within DATA_START load)) (list_any (overlaps load) earlier) PastFile MoreInFile Outside Overlap none in
    false_unless (overlaps load (get_or earlier k d)) (λ is. (let any : list_any (overlaps load) earlier ≡ true = list_any_at (overlaps load) earlier k d there is in cc (any, last)))

-- one more header keeps the loads apart
step_apart : (bytes : List ℕ) (number : ℕ) (b : Bool) → is_load (header_of bytes number) ≡ b → segment_fault bytes number ≡ None → AllPairs AreApart (loads_before bytes number) → AllPairs AreApart (loads_before bytes (number + 1))
step_apart bytes number false is none before = subst (AllPairs AreApart) (sym (loads_kept bytes number is)) before
step_apart bytes number true is none before =
    let load = header_of bytes number in
    let earlier = loads_before bytes number in
    subst (AllPairs AreApart) (sym (loads_more bytes number is))
    (all_pairs_push AreApart earlier load before
    (λ k d there. apart (get_or earlier k d) load (no_overlap bytes earlier load (not_refused bytes number none is) k d there)))

apart_before : (bytes : List ℕ) (number : ℕ) → ((k : ℕ) → k < number → segment_fault bytes k ≡ None) → AllPairs AreApart (loads_before bytes number)
apart_before bytes zero none = λ i j d below there. absurd (omega arith)
apart_before bytes (suc number) none =
    let before = apart_before bytes number (λ k below. none k (omega arith)) in
    subst (λ (n : ℕ). AllPairs AreApart (loads_before bytes n)) (add-one number)
    (step_apart bytes number (is_load (header_of bytes number)) refl (none number (omega arith)) before)

-- no byte is one of two loads
pub loads_apart : (bytes : List ℕ) (least : ℕ) (s : Set) (load : Load) → elf_of bytes least s ≡ Ok load → AllPairs AreApart (loads_of bytes)
loads_apart bytes least s load read =
    apart_before bytes (header_count bytes) (no_segment bytes (right bytes least s load read).segments)
