use Rattle.std.proofs.Common.{arith, ◌<◌, ◌^◌}
use Rattle.tm_lines.proofs.Bounds.{hex_fits}
use Rattle.tm_lines.proofs.numbers.hex_at.Goals as goal

pub overflow_mul-number : goal.overflow_mul-number
overflow_mul-number c = let small : c.loop-c.number < 16 ^ 7 = hex_fits _ _ c.loop-c.invariant.1 (omega arith) in omega arith

pub overflow_add-number : goal.overflow_add-number
overflow_add-number c = let small : c.loop-c.number < 16 ^ 7 = hex_fits _ _ c.loop-c.invariant.1 (omega arith) in omega (arith, c.in_ok-hex_digit_at.ensures.small)
