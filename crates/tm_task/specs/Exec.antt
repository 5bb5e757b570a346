-- What one instruction does to a body (RISC-V Unprivileged ISA, 20191213, chapter 2, "RV32I Base
-- Integer Instruction Set, Version 2.1", and chapter 7, "M" Standard Extension for Integer Multiplication
-- and Division, Version 2.0).
use Rattle.std.specs.Prelude.{ℕ, ◌+◌, ◌-◌, ◌*◌, ◌/◌, ◌%◌, ◌^◌, Bool, false, not, ◌||◌, ◌==◌, int_lt, int_div, int_rem, ℤ, pos, ◌*ℤ◌, nat_lt, nat_le, if◌then◌else◌, List, length, slice_index, slice_set, bit_and, bit_or, bit_xor, Option, Some, None, Result, Ok, Err}
use Rattle.std.specs.Int.{w32, cast_signed, cast_unsigned, int_shr}
use Rattle.tm_marker.specs.declared.body.Body.{Body}
use Rattle.tm_rv.specs.Code.{Text}
use Rattle.tm_rv.specs.Instr.{instr_of, sign_extend}
use Rattle.tm_rv.specs.declared.instr.Instr.{Instr}
use Rattle.tm_rv.specs.declared.instr.Op.{Op}
use Rattle.tm_rv.specs.declared.instr.Op.TheVariants.{Lui, Auipc, Jal, Jalr, Beq, Bne, Blt, Bge, Bltu, Bgeu, Lb, Lh, Lw, Lbu, Lhu, Sb, Sh, Sw, Addi, Slti, Sltiu, Xori, Ori, Andi, Slli, Srli, Srai, Add, Sub, Sll, Slt, Sltu, Xor, Srl, Sra, Or, And, Fence, Ecall, Ebreak, Mul, Mulh, Mulhsu, Mulhu, Div, Divu, Rem, Remu}
use Rattle.tm_task.specs.Memory.{data_start, in_text, in_data, word_at, part_of, spliced}
use Rattle.tm_task.specs.declared.outcome.Cause.{Cause}
use Rattle.tm_task.specs.declared.outcome.Cause.TheVariants.{Fetch, Illegal, Target, Unaligned, Range, TextWrite, Break}

-- an instruction faults, calls a service, or goes on to the next body; `back` says that a transfer
-- was taken to a target at or below the instruction's own address
pub data Exec : Type 0 where
  Faults : (cause : Cause) → Exec
  Calls : (service : ℕ) → Exec
  Goes : (next : Body) → (back : Bool) → Exec

-- a register's value: x0 reads 0
abbrev pub reg : Body → ℕ → ℕ
reg b n = if n == 0 then 0 else slice_index b.regs (n - 1)

-- the body with a value in a register: x0 loses it
abbrev pub with_reg : Body → ℕ → ℕ → Body
with_reg b rd value = if rd == 0 then b else record b { regs = slice_set b.regs (rd - 1) value }

-- the body at the next instruction
abbrev pub advanced : Body → Body
advanced b = record b { pc = (b.pc + 4) % 2 ^ 32 }

-- rd gets the value, and the task goes to the next instruction
abbrev pub written : Body → ℕ → ℕ → Exec
written b rd value = Goes (advanced (with_reg b rd (value % 2 ^ 32))) false

-- a transfer to the target, with the address of the next instruction in rd; a misaligned target faults
abbrev pub jumped : Body → ℕ → ℕ → Exec
jumped b rd target =
    if target % 4 == 0
    then Goes (record (with_reg b rd ((b.pc + 4) % 2 ^ 32)) { pc = target }) (nat_le target b.pc)
    else Faults Target

-- a transfer to pc + imm where the branch is taken
abbrev pub branched : Body → Bool → ℕ → Exec
branched b taken imm = if taken then jumped b 0 ((b.pc + imm) % 2 ^ 32) else Goes (advanced b) false

-- the address is no multiple of the size that is accessed
abbrev pub is_unaligned : ℕ → ℕ → Bool
is_unaligned address size = not (address % size == 0)

-- the address is in the text or in the data
abbrev pub in_memory : List ℕ → Body → ℕ → Bool
in_memory text b address = in_text text address || in_data b.words address

-- the value of `size` bytes at the address, or why they can't be loaded
abbrev pub fetched : List ℕ → Body → ℕ → ℕ → Result ℕ Cause
fetched text b address size =
    if is_unaligned address size then Err Unaligned
    else if not (in_memory text b address) then Err Range
    else Ok (part_of (word_at text b.words address) (address % 4) size)

-- the value that was fetched, as `extend` makes a word of it, goes to rd
abbrev pub loaded_by : Body → ℕ → (ℕ → ℕ) → Result ℕ Cause → Exec
loaded_by b rd extend (Ok value) = written b rd (extend value)
loaded_by b rd extend (Err cause) = Faults cause

-- a load of `size` bytes at the address
abbrev pub loaded : List ℕ → Body → ℕ → ℕ → ℕ → (ℕ → ℕ) → Exec
loaded text b rd address size extend = loaded_by b rd extend (fetched text b address size)

-- the body with the low `size` bytes of the value at the address, which is in the data
abbrev pub with_bytes : Body → ℕ → ℕ → ℕ → Body
with_bytes b address size value =
    let place = (address - data_start) / 4 in
    record b { words = slice_set b.words place (spliced (slice_index b.words place) (address % 4) size value) }

-- the low `size` bytes of the value go to the address
abbrev pub stored : List ℕ → Body → ℕ → ℕ → ℕ → Exec
stored text b address size value =
    if is_unaligned address size then Faults Unaligned
    else if not (in_memory text b address) then Faults Range
    else if in_text text address then Faults TextWrite
    else Goes (advanced (with_bytes b address size value)) false

-- 1 where the test holds, else 0
abbrev pub bit : Bool → ℕ
bit test = if test then 1 else 0

-- x is below y, as signed words
abbrev pub is_less : ℕ → ℕ → Bool
is_less x y = int_lt (cast_signed w32 x) (cast_signed w32 y)

-- the sum of two words
abbrev pub plus : ℕ → ℕ → ℕ
plus x y = (x + y) % 2 ^ 32

-- x shifted to the right by so many places, with its sign from the left
abbrev pub shifted_signed : ℕ → ℕ → ℕ
shifted_signed x places = cast_unsigned w32 (int_shr (cast_signed w32 x) places)

-- the number without its bit 0
abbrev pub without_bit_0 : ℕ → ℕ
without_bit_0 n = n - n % 2

-- the high 32 of the 64 bits of a product
abbrev pub high_word : ℤ → ℕ
high_word product = cast_unsigned w32 (int_shr product 32)

-- the quotient of two signed words, rounded towards 0; all bits are 1 where the divisor is 0
abbrev pub quotient : ℕ → ℕ → ℕ
quotient x y = if y == 0 then 2 ^ 32 - 1 else cast_unsigned w32 (int_div (cast_signed w32 x) (cast_signed w32 y))

-- the quotient of two words; all bits are 1 where the divisor is 0
abbrev pub quotient_unsigned : ℕ → ℕ → ℕ
quotient_unsigned x y = if y == 0 then 2 ^ 32 - 1 else x / y

-- the remainder of two signed words, with the sign of the dividend, which it is where the divisor is 0
abbrev pub remainder : ℕ → ℕ → ℕ
remainder x y = if y == 0 then x else cast_unsigned w32 (int_rem (cast_signed w32 x) (cast_signed w32 y))

-- the remainder of two words, which is the dividend where the divisor is 0
abbrev pub remainder_unsigned : ℕ → ℕ → ℕ
remainder_unsigned x y = if y == 0 then x else x % y

-- the service that a call asks for: a7, and 255 for all above 254
abbrev pub service_of : Body → ℕ
service_of b = if nat_lt 254 (reg b 17) then 255 else reg b 17

-- what each operation does; x and y are the values of rs1 and rs2 before it
abbrev pub meaning : Op → List ℕ → Body → (rd : ℕ) → (x : ℕ) → (y : ℕ) → (imm : ℕ) → Exec
meaning Lui text b rd x y imm = written b rd imm
meaning Auipc text b rd x y imm = written b rd (b.pc + imm)
meaning Jal text b rd x y imm = jumped b rd (plus b.pc imm)
meaning Jalr text b rd x y imm = jumped b rd (without_bit_0 (plus x imm))
meaning Beq text b rd x y imm = branched b (x == y) imm
meaning Bne text b rd x y imm = branched b (not (x == y)) imm
meaning Blt text b rd x y imm = branched b (is_less x y) imm
meaning Bge text b rd x y imm = branched b (not (is_less x y)) imm
meaning Bltu text b rd x y imm = branched b (nat_lt x y) imm
meaning Bgeu text b rd x y imm = branched b (not (nat_lt x y)) imm
meaning Lb text b rd x y imm = loaded text b rd (plus x imm) 1 (sign_extend 8)
meaning Lh text b rd x y imm = loaded text b rd (plus x imm) 2 (sign_extend 16)
meaning Lw text b rd x y imm = loaded text b rd (plus x imm) 4 (λ value. value)
meaning Lbu text b rd x y imm = loaded text b rd (plus x imm) 1 (λ value. value)
meaning Lhu text b rd x y imm = loaded text b rd (plus x imm) 2 (λ value. value)
meaning Sb text b rd x y imm = stored text b (plus x imm) 1 y
meaning Sh text b rd x y imm = stored text b (plus x imm) 2 y
meaning Sw text b rd x y imm = stored text b (plus x imm) 4 y
meaning Addi text b rd x y imm = written b rd (x + imm)
meaning Slti text b rd x y imm = written b rd (bit (is_less x imm))
meaning Sltiu text b rd x y imm = written b rd (bit (nat_lt x imm))
meaning Xori text b rd x y imm = written b rd (bit_xor x imm)
meaning Ori text b rd x y imm = written b rd (bit_or x imm)
meaning Andi text b rd x y imm = written b rd (bit_and x imm)
meaning Slli text b rd x y imm = written b rd (x * 2 ^ (imm % 32))
meaning Srli text b rd x y imm = written b rd (x / 2 ^ (imm % 32))
meaning Srai text b rd x y imm = written b rd (shifted_signed x (imm % 32))
meaning Add text b rd x y imm = written b rd (x + y)
meaning Sub text b rd x y imm = written b rd (x + (2 ^ 32 - y))
meaning Sll text b rd x y imm = written b rd (x * 2 ^ (y % 32))
meaning Slt text b rd x y imm = written b rd (bit (is_less x y))
meaning Sltu text b rd x y imm = written b rd (bit (nat_lt x y))
meaning Xor text b rd x y imm = written b rd (bit_xor x y)
meaning Srl text b rd x y imm = written b rd (x / 2 ^ (y % 32))
meaning Sra text b rd x y imm = written b rd (shifted_signed x (y % 32))
meaning Or text b rd x y imm = written b rd (bit_or x y)
meaning And text b rd x y imm = written b rd (bit_and x y)
meaning Fence text b rd x y imm = Goes (advanced b) false
meaning Ecall text b rd x y imm = Calls (service_of b)
meaning Ebreak text b rd x y imm = Faults Break
meaning Mul text b rd x y imm = written b rd (x * y)
meaning Mulh text b rd x y imm = written b rd (high_word (cast_signed w32 x *ℤ cast_signed w32 y))
meaning Mulhsu text b rd x y imm = written b rd (high_word (cast_signed w32 x *ℤ pos y))
meaning Mulhu text b rd x y imm = written b rd (x * y / 2 ^ 32)
meaning Div text b rd x y imm = written b rd (quotient x y)
meaning Divu text b rd x y imm = written b rd (quotient_unsigned x y)
meaning Rem text b rd x y imm = written b rd (remainder x y)
meaning Remu text b rd x y imm = written b rd (remainder_unsigned x y)

-- what an instruction does
abbrev pub exec_instr : List ℕ → Body → Instr → Exec
exec_instr text b i = meaning i.op text b i.rd (reg b i.rs1) (reg b i.rs2) i.imm

-- what the instruction that a word is does; a word of no row faults
abbrev pub exec_word : List ℕ → Body → Option Instr → Exec
exec_word text b None = Faults Illegal
exec_word text b (Some i) = exec_instr text b i

-- what the instruction at a body's pc does; a pc past the text faults
unfoldable pub exec : Text → Body → Exec
exec text b =
    if nat_lt b.pc (4 * length text.words)
    then exec_word text.words b (instr_of (slice_index text.words (b.pc / 4)) text.set)
    else Faults Fetch
