-- How many bytes each spelling has.
use Rattle.std.proofs.Common.{◌≡◌, ℕ, ◌+◌, ◌*◌, ◌<◌, ◌≤◌, List, [], ◌∷◌, ◌++◌, length, refl, subst, arith, zero, suc, ◌-◌, nat_lt, true, if◌then◌else◌}
use Rattle.std.specs.Prelude.{take, slice_get, Some}
use Rattle.std.specs.List.{flat_map}
use Rattle.std.proofs.lemmas.List.{length-append, length-take-le}
use Rattle.std.proofs.lemmas.Grind.{common_steps}
use Rattle.tm_marker.specs.declared.body.Body.{Body}
use Rattle.tm_marker.specs.declared.marker.Marker.{Marker}
use Rattle.tm_marker.specs.declared.entries.Switch.{Switch}
use Rattle.tm_marker.specs.declared.entries.DataEntry.{DataEntry}
use Rattle.tm_marker.specs.declared.entries.OutputEntry.{OutputEntry}
use Rattle.tm_check.specs.Checkpoint.{Checkpoint, place_in}
use Rattle.tm_dump.specs.Fields.{word_bytes, long_bytes, marker_bytes, switch_bytes, output_bytes, entry_bytes, core_words, checkpoint_bytes}

pub length-word_bytes : (n : ℕ) → length (word_bytes n) ≡ 4
unfolding word_bytes
length-word_bytes n = refl

pub length-long_bytes : (n : ℕ) → length (long_bytes n) ≡ 8
unfolding long_bytes
length-long_bytes n = refl

pub length-marker_bytes : (at : Marker) → length (marker_bytes at) ≡ 16
unfolding marker_bytes
length-marker_bytes at =
    simp (length-append, length-word_bytes, length-long_bytes) refl

pub length-switch_bytes : (entry : Switch) → length (switch_bytes entry) ≡ 35
unfolding switch_bytes
length-switch_bytes entry =
    simp (length-append, length-marker_bytes) refl

pub length-output_bytes : (entry : OutputEntry) → length (output_bytes entry) ≡ 6
unfolding output_bytes
length-output_bytes entry =
    simp length-word_bytes refl

-- the length of a list of spellings that have one length
pub length-flat_same : {X : Type 0} (f : X → List ℕ) (n : ℕ) → ((x : X) → length (f x) ≡ n) → (xs : List X) → length (flat_map f xs) ≡ n * length xs
length-flat_same f n same [] = omega arith
length-flat_same f n same (x ∷ xs) =
    grind (arith, length-append (f x) (flat_map f xs), same x, length-flat_same f n same xs)

-- the length of a list of spellings that have at most one length
pub length-flat_most : {X : Type 0} (f : X → List ℕ) (n : ℕ) → ((x : X) → length (f x) ≤ n) → (xs : List X) → length (flat_map f xs) ≤ n * length xs
length-flat_most f n most [] = omega arith
length-flat_most f n most (x ∷ xs) =
    grind (arith, length-append (f x) (flat_map f xs), most x, length-flat_most f n most xs)

pub length-words : (xs : List ℕ) → length (flat_map word_bytes xs) ≡ 4 * length xs
length-words xs = length-flat_same word_bytes 4 length-word_bytes xs

-- at most so many are taken
pub length-taken : {X : Type 0} (n : ℕ) (xs : List X) → length (take n xs) ≤ n
length-taken n xs = grind (arith, common_steps)

pub length-entry_bytes : (entry : DataEntry) → length (entry_bytes entry) ≤ 21
unfolding entry_bytes
length-entry_bytes entry =
    omega (
      arith,
      length-append (entry.service ∷ []) (word_bytes entry.status ++ flat_map word_bytes (take 4 entry.words)),
      length-append (word_bytes entry.status) (flat_map word_bytes (take 4 entry.words)),
      length-word_bytes entry.status,
      length-words (take 4 entry.words),
      length-taken 4 entry.words,
    )

-- the pc and the registers are at most 32 words
pub length-core_words : (body : Body) → length (core_words body) ≤ 32
unfolding core_words
length-core_words body = omega (arith, length-taken 31 body.regs)

length-four : (a b c d : List ℕ) → length (a ++ b ++ c ++ d) ≡ length a + (length b + (length c + length d))
length-four a b c d = omega (arith, length-append (a ++ b ++ c) d, length-append (a ++ b) c, length-append a b)

pub length-checkpoint_bytes : (c : Checkpoint) → length (checkpoint_bytes c) ≤ 144 + 4 * length c.body.words
unfolding checkpoint_bytes
length-checkpoint_bytes c =
    let whole : length (checkpoint_bytes c) ≡
    length (flat_map word_bytes (core_words c.body)) + (length (long_bytes c.data_number)
    + (length (long_bytes c.control_number) + length (flat_map word_bytes c.body.words)))
    = length-four (flat_map word_bytes (core_words c.body)) (long_bytes c.data_number) (long_bytes c.control_number) (flat_map word_bytes c.body.words) in
    grind (
      arith,
      whole,
      length-words (core_words c.body),
      length-core_words c.body,
      length-long_bytes c.data_number,
      length-long_bytes c.control_number,
      length-words c.body.words,
    )

pub ruleset lengths = (length-append, length-words, length-word_bytes, length-long_bytes, length-marker_bytes, length-switch_bytes, length-output_bytes)

slice_get-take : {X : Type 0} (n i : ℕ) (xs : List X) (x : X) → i < n → slice_get xs i ≡ Some x → slice_get (take n xs) i ≡ Some x
slice_get-take zero i xs x below there = absurd (omega arith)
slice_get-take (suc n) i [] x below there = there
slice_get-take (suc n) zero (y ∷ xs) x below there = there
slice_get-take (suc n) (suc i) (y ∷ xs) x below there = slice_get-take n i xs x (omega arith) there

register_at : (body : Body) (i v : ℕ) → i < 31 → place_in body (suc i) ≡ Some v → slice_get body.regs i ≡ Some v
register_at body i v below there = grind (arith, common_steps, there)

-- a place of the pc and the registers, in their list
pub core_at : (body : Body) (place v : ℕ) → place < 32 → place_in body place ≡ Some v → slice_get (core_words body) place ≡ Some v
unfolding core_words
core_at body zero v below there = there
core_at body (suc i) v below there = slice_get-take 31 i body.regs v (omega arith) (register_at body i v (omega arith) there)

-- a place of the data words, in their list
pub data_at : (body : Body) (i v : ℕ) → place_in body (32 + i) ≡ Some v → slice_get body.words i ≡ Some v
data_at body i v there = grind (arith, common_steps, there)
