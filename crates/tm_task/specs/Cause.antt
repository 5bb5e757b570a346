-- The numbers of the causes of a fault.
use Rattle.std.specs.Prelude.{ℕ}
use Rattle.tm_task.specs.declared.outcome.Cause.{Cause}
use Rattle.tm_task.specs.declared.outcome.Cause.TheVariants.{Fetch, Illegal, Target, Unaligned, Range, TextWrite, Break}

abbrev pub cause_number : Cause → ℕ
cause_number Fetch = 1
cause_number Illegal = 2
cause_number Target = 3
cause_number Unaligned = 4
cause_number Range = 5
cause_number TextWrite = 6
cause_number Break = 7
