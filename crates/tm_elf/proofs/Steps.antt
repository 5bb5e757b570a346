-- Steps of the lists that the definitions speak of.
use Rattle.std.proofs.Common.{◌≡◌, ℕ, suc, ◌+◌, ◌-◌, ◌*◌, ◌<◌, Bool, true, false, cond, List, [], ◌∷◌, ◌++◌, map, refl, sym, subst, ◌∙◌, arith, Option, Some, None}
use Rattle.std.specs.Prelude.{filter}
use Rattle.std.specs.List.{range_with_len}
use Rattle.std.proofs.lemmas.List.{append-nil}
use Rattle.std.proofs.lemmas.List.FromFn.{map-range_with_len_more, filter_of_map_range_with_len_more}
use Rattle.tm_elf.specs.declared.header.ProgramHeader.{ProgramHeader}
use Rattle.tm_elf.specs.Fields.{header_of}
use Rattle.tm_elf.specs.Loads.{is_load, loads_before, loaded_word, loaded_words}
use Rattle.tm_elf.specs.Elf.{first}

-- one more word
pub words_more : (bytes : List ℕ) (loads : List ProgramHeader) (start count : ℕ) → loaded_words bytes loads start (count + 1) ≡ loaded_words bytes loads start count ++ loaded_word bytes loads (start + 4 * count) ∷ []
words_more bytes loads start count =
    map-range_with_len_more (λ index. loaded_word bytes loads (start + 4 * index)) 0 count count (omega arith)

filter_step : {X : Type 0} (p : X → Bool) (f : ℕ → X) (n : ℕ) (b : Bool) → p (f n) ≡ b → filter p (map f (range_with_len 0 (n + 1))) ≡ filter p (map f (range_with_len 0 n)) ++ cond b (f n ∷ []) []
filter_step {X} p f n b is =
    subst (λ (t : Bool). filter p (map f (range_with_len 0 (n + 1))) ≡ filter p (map f (range_with_len 0 n)) ++ cond t (f n ∷ []) []) is
    (filter_of_map_range_with_len_more p f 0 n n (omega arith))

-- a header of something to load is one more load
pub loads_more : (bytes : List ℕ) (number : ℕ) → is_load (header_of bytes number) ≡ true → loads_before bytes (number + 1) ≡ loads_before bytes number ++ header_of bytes number ∷ []
loads_more bytes number is = filter_step is_load (header_of bytes) number true is

-- another header is not
pub loads_kept : (bytes : List ℕ) (number : ℕ) → is_load (header_of bytes number) ≡ false → loads_before bytes (number + 1) ≡ loads_before bytes number
loads_kept bytes number is =
    filter_step is_load (header_of bytes) number false is ∙ append-nil (loads_before bytes number)

range_step : {A : Type 0} (f : ℕ → Option A) (n count : ℕ) → n < count → first (map f (range_with_len n (count - n))) ≡ first (f n ∷ map f (range_with_len (n + 1) (count - (n + 1))))
range_step f n count below =
    let more : count - n ≡ suc (count - (n + 1)) = omega arith in
    rw more refl

-- where nothing is found at a number, the search goes on behind it
pub first_more : {A : Type 0} (f : ℕ → Option A) (n count : ℕ) → n < count → f n ≡ None → first (map f (range_with_len n (count - n))) ≡ first (map f (range_with_len (n + 1) (count - (n + 1))))
first_more f n count below none = range_step f n count below ∙ rw none refl

-- what is found at a number
pub first_found : {A : Type 0} (f : ℕ → Option A) (n count : ℕ) (x : A) → n < count → f n ≡ Some x → first (map f (range_with_len n (count - n))) ≡ Some x
first_found f n count x below found = range_step f n count below ∙ rw found refl
