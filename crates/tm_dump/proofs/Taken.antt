-- What was read stood there: the bytes before a place are the spelling of the value.
use Rattle.std.proofs.Common.{◌≡◌, ℕ, ◌<◌, List, [], ◌∷◌, ◌++◌, length, take, drop, refl, sym, ap, ◌∙◌, subst, arith, zero, suc, Bool, true, false, if◌then◌else◌, nat_lt, inl, inr}
use Rattle.std.specs.Prelude.{Result, Ok, Err, slice_index, get_or}
use Rattle.std.specs.List.{flat_map}
use Rattle.std.proofs.lemmas.List.{append_assoc, length-take-le, get_or_past}
use Rattle.std.proofs.lemmas.List.Elements.{All-take, All-drop, All-get_or}
use Rattle.std.proofs.lemmas.Bool.{cases_lt}
use Rattle.std.proofs.lemmas.Bool.Decides.{nat_tests}
use Rattle.std.proofs.lemmas.Nat.{le_bytes_4, le_bytes_8}
use Rattle.byteorder.specs.Endian.{little_number}
use Rattle.tm_lines.specs.Steps.{◌>>=◌}
use Rattle.tm_dump.specs.declared.fault.DumpFault.{DumpFault}
use Rattle.tm_dump.specs.Bytes.{AreBytes}
use Rattle.tm_dump.specs.Cursor.{Cursor, Reading, bad, past, word_at, long_at, byte_in, word_in, long_in, ruled, byte_where, word_where, long_where, words_in}
use Rattle.tm_dump.specs.Fields.{word_bytes, long_bytes}

-- between two places stand these bytes
abbrev pub Took : Cursor → Cursor → List ℕ → Type 0
Took at after bytes = AreBytes at.left → (at.left ≡ bytes ++ after.left) × AreBytes after.left

pub took_nothing : (at : Cursor) → Took at at []
took_nothing at small = (refl, small)

pub took_both : (at between after : Cursor) (xs ys : List ℕ) → Took at between xs → Took between after ys → Took at after (xs ++ ys)
took_both at between after xs ys first second small =
    let one = first small in
    let two = second one.1 in
    (one.0 ∙ ap (λ l. xs ++ l) two.0 ∙ sym (append_assoc xs ys after.left), two.1)

pub whole_again : (n : ℕ) (xs : List ℕ) → take n xs ++ drop n xs ≡ xs
whole_again zero xs = refl
whole_again (suc n) [] = refl
whole_again (suc n) (x ∷ xs) = ap (λ l. x ∷ l) (whole_again n xs)

pub took_past : (n : ℕ) (at : Cursor) → Took at (past n at) (take n at.left)
took_past n at small = (sym (whole_again n at.left), All-drop (λ byte. byte < 256) n at.left small)

abbrev or_else : {X : Type 0} → X → Result X DumpFault → X
or_else d (Ok x) = x
or_else d (Err e) = d

abbrev given : {X : Type 0} → X → Result X DumpFault
given x = Ok x

pub ok_is : {X : Type 0} (x y : X) → given x ≡ Ok y → x ≡ y
ok_is x y e = ap (λ r. or_else x r) e

-- both steps gave a value
pub bound : {A B E : Type 0} (P : Type 0) (r : Result A E) (next : A → Result B E) (y : B) →
    (r >>= next) ≡ Ok y → ((x : A) → r ≡ Ok x → next x ≡ Ok y → P) → P
bound P (Err e) next y is go = cc is
bound P (Ok x) next y is go = go x refl is

-- a number of so many bytes was there
fitted : (b : Bool) (at : Cursor) (n x : ℕ) (r : ℕ × Cursor) → (if b then bad at else Ok (x, past n at)) ≡ Ok r → (b ≡ false) × ((x, past n at) ≡ r)
fitted true at n x r e = cc e
fitted false at n x r e = (refl, ok_is (x, past n at) r e)

small_at : (bytes : List ℕ) → AreBytes bytes → (i : ℕ) → get_or bytes i 0 < 256
small_at bytes small i = elim (cases_lt i (length bytes)) [
  | inl below ↦ All-get_or (λ byte. byte < 256) bytes i 0 below small
  | inr past ↦ subst (λ n. n < 256) (sym (get_or_past bytes i 0 past)) (omega arith)
]

spelled_word : (bytes : List ℕ) → AreBytes bytes → length bytes ≡ 4 → word_bytes (little_number 4 bytes) ≡ bytes
unfolding word_bytes
spelled_word bytes small four = le_bytes_4 bytes (little_number 4 bytes) four (small_at bytes small) (omega arith)

spelled_long : (bytes : List ℕ) → AreBytes bytes → length bytes ≡ 8 → long_bytes (little_number 8 bytes) ≡ bytes
unfolding long_bytes
spelled_long bytes small eight = le_bytes_8 bytes (little_number 8 bytes) eight (small_at bytes small) (omega arith)

one_byte : (bytes : List ℕ) → nat_lt (length bytes) 1 ≡ false → take 1 bytes ≡ slice_index bytes 0 ∷ []
one_byte [] long = cc long
one_byte (byte ∷ bytes) long = refl

pub took_byte : (at : Cursor) (r : ℕ × Cursor) → byte_in at ≡ Ok r → Took at r.1 (r.0 ∷ [])
took_byte at r e =
    let there = fitted (nat_lt (length at.left) 1) at 1 (slice_index at.left 0) r e in
    subst (λ (r : ℕ × Cursor). Took at r.1 (r.0 ∷ [])) there.1
    (subst (λ bytes. Took at (past 1 at) bytes) (one_byte at.left there.0) (took_past 1 at))

pub took_word : (at : Cursor) (r : ℕ × Cursor) → word_in at ≡ Ok r → Took at r.1 (word_bytes r.0)
unfolding word_at
took_word at r e =
    let there = fitted (nat_lt (length at.left) 4) at 4 (word_at at.left) r e in
    let long : length (take 4 at.left) ≡ 4 = length-take-le 4 at.left (grind (arith, nat_tests, there.0)) in
    subst (λ (r : ℕ × Cursor). Took at r.1 (word_bytes r.0)) there.1
    (λ small. subst (λ bytes. (at.left ≡ bytes ++ drop 4 at.left) × AreBytes (drop 4 at.left))
    (sym (spelled_word (take 4 at.left) (All-take (λ byte. byte < 256) 4 at.left small) long)) (took_past 4 at small))

pub took_long : (at : Cursor) (r : ℕ × Cursor) → long_in at ≡ Ok r → Took at r.1 (long_bytes r.0)
unfolding long_at
took_long at r e =
    let there = fitted (nat_lt (length at.left) 8) at 8 (long_at at.left) r e in
    let long : length (take 8 at.left) ≡ 8 = length-take-le 8 at.left (grind (arith, nat_tests, there.0)) in
    subst (λ (r : ℕ × Cursor). Took at r.1 (long_bytes r.0)) there.1
    (λ small. subst (λ bytes. (at.left ≡ bytes ++ drop 8 at.left) × AreBytes (drop 8 at.left))
    (sym (spelled_long (take 8 at.left) (All-take (λ byte. byte < 256) 8 at.left small) long)) (took_past 8 at small))

tested : {X : Type 0} (at : Cursor) (rule : X → Bool) (x r : X × Cursor) (b : Bool) → rule x.0 ≡ b → (if b then Ok x else bad at) ≡ Ok r →
    (rule r.0 ≡ true) × (given x ≡ Ok r)
tested at rule x r true holds e = subst (λ y. (rule y.0 ≡ true) × (given x ≡ Ok y)) (ok_is x r e) (holds, refl)
tested at rule x r false holds e = cc e

-- a field that was read keeps its rule
pub kept_rule : {X : Type 0} (at : Cursor) (rule : X → Bool) (found : Reading X) (r : X × Cursor) → ruled at rule found ≡ Ok r → (rule r.0 ≡ true) × (found ≡ Ok r)
kept_rule at rule (Err fault) r e = cc e
kept_rule at rule (Ok x) r e = tested at rule x r (rule x.0) refl e

-- what was read, with what it keeps, of a thing that is spelled so
pub record Only {X : Type 0} (spell : X → List ℕ) (Q : X → Type 0) (at : Cursor) (r : X × Cursor) : Type 0 where
  pub took : Took at r.1 (spell r.0)
  pub keeps : Q r.0

pub only_byte : (rule : ℕ → Bool) (at : Cursor) (r : ℕ × Cursor) → byte_where rule at ≡ Ok r → Only (λ n. n ∷ []) (λ n. rule n ≡ true) at r
only_byte rule at r e = let k = kept_rule at rule (byte_in at) r e in record { took = took_byte at r k.1; keeps = k.0 }

pub only_word : (rule : ℕ → Bool) (at : Cursor) (r : ℕ × Cursor) → word_where rule at ≡ Ok r → Only word_bytes (λ n. rule n ≡ true) at r
only_word rule at r e = let k = kept_rule at rule (word_in at) r e in record { took = took_word at r k.1; keeps = k.0 }

pub only_long : (rule : ℕ → Bool) (at : Cursor) (r : ℕ × Cursor) → long_where rule at ≡ Ok r → Only long_bytes (λ n. rule n ≡ true) at r
only_long rule at r e = let k = kept_rule at rule (long_in at) r e in record { took = took_long at r k.1; keeps = k.0 }

-- so many words
pub only_words : (n : ℕ) (at : Cursor) (r : List ℕ × Cursor) → words_in n at ≡ Ok r → Only (λ words. flat_map word_bytes words) (λ words. length words ≡ n) at r
only_words zero at r e = subst (Only (λ words. flat_map word_bytes words) (λ words. length words ≡ 0) at) (ok_is ([], at) r e) (record { took = took_nothing at; keeps = refl })
only_words (suc n) at r e =
    let Goal : Type 0 = Only (λ words. flat_map word_bytes words) (λ words. length words ≡ suc n) at r in
    bound Goal (word_in at) (λ word. words_in n word.1 >>= λ words. Ok (word.0 ∷ words.0, words.1)) r e (λ word is e1.
    bound Goal (words_in n word.1) (λ words. Ok (word.0 ∷ words.0, words.1)) r e1 (λ words is2 e2.
    let rest = only_words n word.1 words is2 in
    subst (Only (λ words. flat_map word_bytes words) (λ words. length words ≡ suc n) at) (ok_is (word.0 ∷ words.0, words.1) r e2) (record {
      took = took_both at word.1 words.1 (word_bytes word.0) (flat_map word_bytes words.0) (took_word at word is) rest.took;
      keeps = ap suc rest.keeps;
    })))
