-- The mask of a resource's users.
use Rattle.std.proofs.Common.{ℕ, suc, ◌^◌, ◌<◌, ◌≤◌, List, [], ◌∷◌, length, fold, bit_or, All, arith}
use Rattle.std.proofs.lemmas.Nat.{or_lt, le_or_l, le_or_r, pow_below, pow_pos}
use Rattle.tm_image.specs.Draft.{mask_of}

-- the mask of more users has no fewer bits
mask_grows : (users : List ℕ) (mask : ℕ) → mask ≤ fold (λ mask user. bit_or mask (2 ^ user)) mask users
mask_grows [] mask = omega arith
mask_grows (user ∷ users) mask = omega (arith, mask_grows users (bit_or mask (2 ^ user)), le_or_l mask (2 ^ user))

pub mask_some : (users : List ℕ) → 0 < length users → 0 < mask_of users
mask_some [] h = absurd (omega arith)
mask_some (user ∷ users) h = omega (arith, mask_grows users (bit_or 0 (2 ^ user)), le_or_r 0 (2 ^ user), pow_pos user)

mask_from : (n : ℕ) (users : List ℕ) (mask : ℕ)
    → mask < 2 ^ n
    → All (λ user. user < n) users
    → fold (λ mask user. bit_or mask (2 ^ user)) mask users < 2 ^ n
mask_from n [] mask h each = h
mask_from n (user ∷ users) mask h each =
    mask_from n users (bit_or mask (2 ^ user)) (or_lt n mask (2 ^ user) h (pow_below user n (each 0 user (omega arith))))
    (λ k d below. each (suc k) d (omega arith))

pub mask_few : (n : ℕ) (users : List ℕ) → All (λ user. user < n) users → mask_of users < 2 ^ n
mask_few n users each = mask_from n users 0 (pow_pos n) each
