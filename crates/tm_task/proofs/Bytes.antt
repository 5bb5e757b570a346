-- The bytes of a word by shifts and remainders.
use Rattle.std.proofs.Common.{◌≡◌, ℕ, zero, suc, ◌+◌, ◌-◌, ◌*◌, ◌/◌, ◌%◌, ◌^◌, ◌<◌, ◌≤◌, inl, inr, arith}
use Rattle.tm_task.specs.Memory.{IsSize, part_of, spliced}

-- a byte, a halfword and a word of a word
byte_part : (word k : ℕ) → k + 1 ≤ 4 → part_of word k 1 ≡ word / 2 ^ (8 * k) % 256
unfolding part_of
byte_part word zero h = omega arith
byte_part word (suc zero) h = omega arith
byte_part word (suc (suc zero)) h = omega arith
byte_part word (suc (suc (suc zero))) h = omega arith
byte_part word (suc (suc (suc (suc k)))) h = absurd (omega arith)

half_part : (word k : ℕ) → k + 2 ≤ 4 → part_of word k 2 ≡ word / 2 ^ (8 * k) % 65536
unfolding part_of
half_part word zero h = omega arith
half_part word (suc zero) h = omega arith
half_part word (suc (suc zero)) h = omega arith
half_part word (suc (suc (suc k))) h = absurd (omega arith)

word_part : (word k : ℕ) → word < 2 ^ 32 → k + 4 ≤ 4 → part_of word k 4 ≡ word / 2 ^ (8 * k)
unfolding part_of
word_part word zero f h = omega arith
word_part word (suc k) f h = absurd (omega arith)

-- the parts of each size, for a size that is known by an equation
pub part_1 : (word k size : ℕ) → size ≡ 1 → k + size ≤ 4 → part_of word k size ≡ word / 2 ^ (8 * k) % 256
part_1 word k size e h = rw e (byte_part word k (omega arith))

pub part_2 : (word k size : ℕ) → size ≡ 2 → k + size ≤ 4 → part_of word k size ≡ word / 2 ^ (8 * k) % 65536
part_2 word k size e h = rw e (half_part word k (omega arith))

pub part_4 : (word k size : ℕ) → word < 2 ^ 32 → size ≡ 4 → k + size ≤ 4 → part_of word k size ≡ word / 2 ^ (8 * k)
part_4 word k size f e h = rw e (word_part word k f (omega arith))

word_below : (word k : ℕ) → word < 2 ^ 32 → k + 4 ≤ 4 → part_of word k 4 < 2 ^ 32
word_below word zero f h = omega (arith, word_part word 0 f h)
word_below word (suc k) f h = absurd (omega arith)

-- a part is below the power of its size
pub part_below : (word k size : ℕ) → word < 2 ^ 32 → IsSize size → k + size ≤ 4 → part_of word k size < 2 ^ (8 * size)
part_below word k size f (inl e) h = rw e (omega (arith, byte_part word k (omega arith)))
part_below word k size f (inr (inl e)) h = rw e (omega (arith, half_part word k (omega arith)))
part_below word k size f (inr (inr e)) h = rw e (word_below word k f (omega arith))

-- what the code makes of a word, a part of it and the value that replaces the part
abbrev replaced : ℕ → ℕ → ℕ → ℕ → ℕ
replaced word k old new = ((word + (2 ^ 32 - old * 2 ^ (8 * k) % 2 ^ 32)) % 2 ^ 32 + new * 2 ^ (8 * k) % 2 ^ 32) % 2 ^ 32

byte_spliced : (word k value : ℕ) → word < 2 ^ 32 → k + 1 ≤ 4 →
    replaced word k (word / 2 ^ (8 * k) % 256) (value / 2 ^ (8 * 0) % 256) ≡ spliced word k 1 value
unfolding spliced
byte_spliced word zero value f h = omega arith
byte_spliced word (suc zero) value f h = omega arith
byte_spliced word (suc (suc zero)) value f h = omega arith
byte_spliced word (suc (suc (suc zero))) value f h = omega arith
byte_spliced word (suc (suc (suc (suc k)))) value f h = absurd (omega arith)

half_spliced : (word k value : ℕ) → word < 2 ^ 32 → k + 2 ≤ 4 →
    replaced word k (word / 2 ^ (8 * k) % 65536) (value / 2 ^ (8 * 0) % 65536) ≡ spliced word k 2 value
unfolding spliced
half_spliced word zero value f h = omega arith
half_spliced word (suc zero) value f h = omega arith
half_spliced word (suc (suc zero)) value f h = omega arith
half_spliced word (suc (suc (suc k))) value f h = absurd (omega arith)

word_spliced : (word k value : ℕ) → word < 2 ^ 32 → value < 2 ^ 32 → k + 4 ≤ 4 →
    replaced word k (word / 2 ^ (8 * k)) (value / 2 ^ (8 * 0)) ≡ spliced word k 4 value
unfolding spliced
word_spliced word zero value f g h = omega arith
word_spliced word (suc k) value f g h = absurd (omega arith)

pub splice_is : (word k size value : ℕ) → word < 2 ^ 32 → value < 2 ^ 32 → IsSize size → k + size ≤ 4 →
    replaced word k (part_of word k size) (part_of value 0 size) ≡ spliced word k size value
splice_is word k size value f g (inl e) h =
    rw (e, byte_part word k (omega arith), byte_part value 0 (omega arith)) (byte_spliced word k value f (omega arith))
splice_is word k size value f g (inr (inl e)) h =
    rw (e, half_part word k (omega arith), half_part value 0 (omega arith)) (half_spliced word k value f (omega arith))
splice_is word k size value f g (inr (inr e)) h =
    rw (e, word_part word k f (omega arith), word_part value 0 g (omega arith)) (word_spliced word k value f g (omega arith))
