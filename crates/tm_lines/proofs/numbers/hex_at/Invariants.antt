use Rattle.std.proofs.Common.{◌≡◌, ◌<◌, ◌^◌, drop}
use Rattle.tm_lines.specs.Numbers.{hex_digit_in, digits_on}
use Rattle.tm_lines.proofs.numbers.hex_at.Given as goal

abbrev pub invariant-loop-c : goal.invariant-loop-c
invariant-loop-c l =
    (digits_on hex_digit_in 16 l.number (drop l.c-index l.digits) ≡ digits_on hex_digit_in 16 0 l.digits) ×
    (l.number < 16 ^ l.c-index)
