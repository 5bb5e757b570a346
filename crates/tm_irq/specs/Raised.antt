-- The answers of a raise.
use Rattle.std.specs.Prelude.{Bool, true, false}
use Rattle.tm_irq.specs.declared.device_seat.Raised.{Raised}
use Rattle.tm_irq.specs.declared.device_seat.Raised.TheVariants.{Fresh, Joined}

-- whether the raise found the line's bit set
abbrev pub is_joined_answer : Raised → Bool
is_joined_answer Fresh = false
is_joined_answer Joined = true
