-- A body's parts, each by itself: its pc, its registers, its data words.
use Rattle.std.specs.Prelude.{ℕ, ◌-◌, ◌==◌, if◌then◌else◌, List, slice_index, slice_set}
use Rattle.tm_marker.specs.declared.body.Body.{Body}

-- the body of these parts
abbrev pub body_at : ℕ → List ℕ → List ℕ → Body
body_at pc regs words = record { pc = pc; regs = regs; words = words }

-- a register's value among x1 to x31: x0 reads 0
abbrev pub register : List ℕ → ℕ → ℕ
register regs n = if n == 0 then 0 else slice_index regs (n - 1)

-- the registers x1 to x31 with a value in one of them: x0 loses it
abbrev pub with_register : List ℕ → ℕ → ℕ → List ℕ
with_register regs n value = if n == 0 then regs else slice_set regs (n - 1) value
