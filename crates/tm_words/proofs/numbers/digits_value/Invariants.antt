use Rattle.std.proofs.Common.{◌≡◌, ◌<◌, ◌^◌, take}
use Rattle.tm_words.specs.Numbers.{digits_value}
use Rattle.tm_words.proofs.numbers.digits_value.Given as goal

abbrev pub invariant-loop-c : goal.invariant-loop-c
invariant-loop-c l = (l.value ≡ digits_value (take l.c-index l.digits)) × (l.value < 10 ^ l.c-index)
