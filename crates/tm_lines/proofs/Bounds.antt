-- How large a number of a few digits is.
use Rattle.std.proofs.Common.{ℕ, ◌^◌, ◌<◌, ◌≤◌, arith}
use Rattle.std.proofs.Math.Nat.{pow-le-pow_right}

-- a number of fewer than eight hexadecimal digits can take one more
pub hex_fits : (n i : ℕ) → n < 16 ^ i → i < 8 → n < 16 ^ 7
hex_fits n i below few =
    let positive : 0 < 16 = omega arith in
    let few' : i ≤ 7 = omega arith in
    let most : 16 ^ i ≤ 16 ^ 7 = pow-le-pow_right positive few' in
    omega arith
