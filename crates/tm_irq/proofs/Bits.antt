-- The bits of word 0, and the masks by number.
use Rattle.std.proofs.Common.{◌≡◌, ◌≢◌, ℕ, zero, suc, ◌+◌, ◌*◌, ◌/◌, ◌%◌, ◌^◌, ◌<◌, List, [], ◌∷◌, ◌++◌, length, get_or, refl, ap, ap₂, ◌∙◌, arith}
use Rattle.std.specs.Prelude.{bit_or}
use Rattle.std.specs.Int.{bit_at}
use Rattle.std.specs.Int.Bits.{or_zero_r}
use Rattle.std.proofs.Math.Pow.{pow-lt}
use Rattle.std.proofs.Math.Seq.{get_or-append_seam}
use Rattle.std.proofs.lemmas.Nat.{or_mod, or_shr, or_lt}
use Rattle.std.proofs.lemmas.Nat.Bits.{bit_at_or, bit_at-pow_same, bit_at-pow_other, bit_at-lt, bit_at_cat_low}
use native.Mathlib.Decide.{ℕ_discrete}
use Rattle.tm_irq.specs.Rule.{has_line}

-- a line's bit is below 65,536
pub line_small : (line : ℕ) → line < 16 → 2 ^ line < 65536
line_small line h = pow-lt {i = line} {j = 16} h

pub or_small : (bits line : ℕ) → bits < 65536 → line < 16 → bit_or bits (2 ^ line) < 65536
or_small bits line b l = or_lt 16 bits (2 ^ line) b (line_small line l)

-- a raise sets a bit of the low half and leaves the number of takes
pub or_word : (bits n line : ℕ) → bits < 65536 → line < 16 → bit_or (bits + 65536 * n) (2 ^ line) ≡ bit_or bits (2 ^ line) + 65536 * n
or_word bits n line b l =
    let w : ℕ = bits + 65536 * n in
    let x : ℕ = bit_or w (2 ^ line) in
    let small = line_small line l in
    let low : w % 65536 ≡ bits = omega arith in
    let high : w / 65536 ≡ n = omega arith in
    let line_low : 2 ^ line % 65536 ≡ 2 ^ line = omega arith in
    let line_high : 2 ^ line / 65536 ≡ 0 = omega arith in
    let m : x % 65536 ≡ bit_or bits (2 ^ line) = or_mod w (2 ^ line) 16 ∙ ap₂ bit_or low line_low in
    let d : x / 65536 ≡ n = or_shr w (2 ^ line) 16 ∙ ap₂ bit_or high line_high ∙ or_zero_r n in
    omega arith

-- the bit of a line that was raised
pub or_here : (bits line : ℕ) → bit_at (bit_or bits (2 ^ line)) line ≡ 1
or_here bits line = bit_at_or bits (2 ^ line) line ∙ omega (arith, bit_at-pow_same line, bit_at-lt bits line)

-- and of another
pub or_else : (bits line other : ℕ) → other ≢ line → bit_at (bit_or bits (2 ^ line)) other ≡ bit_at bits other
or_else bits line other ne = bit_at_or bits (2 ^ line) other ∙ omega (arith, bit_at-pow_other line other ne)

-- the bits of the low half are those of the word
pub low_bit : (bits n line : ℕ) → line < 16 → bit_at (bits + 65536 * n) line ≡ bit_at bits line
low_bit bits n line l = let same : bits + 65536 * n ≡ n * 2 ^ 16 + bits = omega arith in ap (λ w. bit_at w line) same ∙ bit_at_cat_low n 16 bits line l

same_when : (a b : ℕ) → Dec (a ≡ b) → 2 ^ a ≡ 2 ^ b → a ≡ b
same_when a b (yes is) e = is
same_when a b (no ne) e = let same : bit_at (2 ^ a) a ≡ bit_at (2 ^ b) a = ap (λ n. bit_at n a) e in absurd (omega (arith, bit_at-pow_same a, bit_at-pow_other b a ne))

-- a line by its bit
pub same_line : (a b : ℕ) → 2 ^ a ≡ 2 ^ b → a ≡ b
same_line a b e = same_when a b (ℕ_discrete a b) e

-- the bits that pend have the number after the takes
pub line_here : (takes : List ℕ) (pending line : ℕ) → has_line takes pending (length takes) line ≡ bit_at pending line
line_here takes pending line = ap (λ m. bit_at m line) (get_or-append_seam takes pending [] 0)

mask_else : (takes : List ℕ) (p q n : ℕ) → n ≢ length takes → get_or (takes ++ p ∷ []) n 0 ≡ get_or (takes ++ q ∷ []) n 0
mask_else [] p q zero ne = absurd (ne refl)
mask_else [] p q (suc n) ne = refl
mask_else (x ∷ xs) p q zero ne = refl
mask_else (x ∷ xs) p q (suc n) ne = mask_else xs p q n (λ e. ne (omega arith))

-- at another number the bits that pend don't show
pub line_else : (takes : List ℕ) (p q n line : ℕ) → n ≢ length takes → has_line takes p n line ≡ has_line takes q n line
line_else takes p q n line ne = ap (λ m. bit_at m line) (mask_else takes p q n ne)

mask_none : (masks : List ℕ) (n : ℕ) → get_or (masks ++ 0 ∷ []) n 0 ≡ get_or masks n 0
mask_none [] zero = refl
mask_none [] (suc n) = refl
mask_none (x ∷ xs) zero = refl
mask_none (x ∷ xs) (suc n) = mask_none xs n

-- a take moves the bits that pend into its mask, and none pends
pub line_taken : (takes : List ℕ) (pending n line : ℕ) → has_line (takes ++ pending ∷ []) 0 n line ≡ has_line takes pending n line
line_taken takes pending n line = ap (λ m. bit_at m line) (mask_none (takes ++ pending ∷ []) n)
