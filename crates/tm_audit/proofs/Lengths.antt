-- How long the numbers of an audit are.
use Rattle.std.proofs.Common.{ℕ, ◌^◌, ◌<◌, ◌≤◌, length, decimal, arith}
use Rattle.std.proofs.lemmas.Fmt.{length-decimal-le}

pub short_number : (n : ℕ) → n < 16 → length (decimal n) ≤ 2
short_number n h = length-decimal-le 2 n (omega arith) (omega arith) (omega arith)

pub short_count : (n : ℕ) → n < 2 ^ 64 → length (decimal n) ≤ 20
short_count n h = length-decimal-le 20 n (omega arith) (omega arith) h
