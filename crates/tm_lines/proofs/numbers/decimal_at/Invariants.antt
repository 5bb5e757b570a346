use Rattle.std.proofs.Common.{◌≡◌, ◌<◌, ◌^◌, drop}
use Rattle.tm_lines.specs.Numbers.{digit_in, digits_on}
use Rattle.tm_lines.proofs.numbers.decimal_at.Given as goal

abbrev pub invariant-loop-c : goal.invariant-loop-c
invariant-loop-c l =
    (digits_on digit_in 10 l.number (drop l.c-index l.digits) ≡ digits_on digit_in 10 0 l.digits) × (l.number < 10 ^ l.c-index)
