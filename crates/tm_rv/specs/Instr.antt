-- The fields of a word, and the instruction that it is.
use Rattle.std.specs.Prelude.{◌≡◌, ℕ, ◌+◌, ◌-◌, ◌*◌, ◌/◌, ◌%◌, ◌^◌, ◌<◌, Option, nat_lt, if◌then◌else◌}
use Rattle.std.specs.Option.{option_map}
use Rattle.tm_rv.specs.declared.instr.Op.{Op}
use Rattle.tm_rv.specs.declared.instr.Instr.{Instr}
use Rattle.tm_rv.specs.declared.instr.Set.{Set}
use Rattle.tm_rv.specs.Table.{Format, RType, IType, SType, BType, UType, JType, ShiftType, WordType, row_for, op_of}

-- the bits of a word from `high` down to `low`, as a number
abbrev pub field : ℕ → ℕ → ℕ → ℕ
field word high low = word / 2 ^ low % 2 ^ (high + 1 - low)

-- a number of so many bits, of which the first is the sign, as a number of 32 bits
abbrev pub sign_extend : ℕ → ℕ → ℕ
sign_extend count n = if nat_lt n (2 ^ (count - 1)) then n else n + (2 ^ 32 - 2 ^ count)

-- the immediate that a word has in a format
abbrev pub imm_of : Format → ℕ → ℕ
imm_of RType word = 0
imm_of IType word = sign_extend 12 (field word 31 20)
imm_of SType word = sign_extend 12 (field word 31 25 * 2 ^ 5 + field word 11 7)
imm_of BType word =
    sign_extend 13 (field word 31 31 * 2 ^ 12 + field word 7 7 * 2 ^ 11 + field word 30 25 * 2 ^ 5 + field word 11 8 * 2 ^ 1)
imm_of UType word = field word 31 12 * 2 ^ 12
imm_of JType word =
    sign_extend 21 (field word 31 31 * 2 ^ 20 + field word 19 12 * 2 ^ 12 + field word 20 20 * 2 ^ 11 + field word 30 21 * 2 ^ 1)
imm_of ShiftType word = field word 24 20
imm_of WordType word = 0

-- the number of the register that is written
abbrev pub rd_of : ℕ → ℕ
rd_of word = field word 11 7

-- the number of the first register that is read
abbrev pub rs1_of : ℕ → ℕ
rs1_of word = field word 19 15

-- the number of the second register that is read
abbrev pub rs2_of : ℕ → ℕ
rs2_of word = field word 24 20

-- a number of a register, x0 to x31
abbrev pub IsRegister : ℕ → Type 0
IsRegister r = r < 32

-- an instruction of these parts
abbrev pub instr : Op → ℕ → ℕ → ℕ → ℕ → Instr
instr op rd rs1 rs2 imm = record { op = op; rd = rd; rs1 = rs1; rs2 = rs2; imm = imm }

-- a word taken apart by a format; what the format lacks is 0
abbrev pub split : Format → Op → ℕ → Instr
split RType op w = instr op (rd_of w) (rs1_of w) (rs2_of w) (imm_of RType w)
split IType op w = instr op (rd_of w) (rs1_of w) 0 (imm_of IType w)
split SType op w = instr op 0 (rs1_of w) (rs2_of w) (imm_of SType w)
split BType op w = instr op 0 (rs1_of w) (rs2_of w) (imm_of BType w)
split UType op w = instr op (rd_of w) 0 0 (imm_of UType w)
split JType op w = instr op (rd_of w) 0 0 (imm_of JType w)
split ShiftType op w = instr op (rd_of w) (rs1_of w) 0 (imm_of ShiftType w)
split WordType op w = instr op 0 0 0 (imm_of WordType w)

-- the instruction of a word, if it asks for an operation
abbrev pub instr_with : Option Op → ℕ → Option Instr
instr_with operation word = option_map (λ op. split (row_for op).format op word) operation

-- the instruction that a word is, if it belongs to a row of the set's table
unfoldable pub instr_of : ℕ → Set → Option Instr
instr_of word set = instr_with (op_of word set) word

-- a number of 32 bits that is the sign extension of its lowest bits
abbrev pub IsSignExtended : ℕ → ℕ → Type 0
IsSignExtended count imm = imm ≡ sign_extend count (imm % 2 ^ count)

-- the fields are in the range of the format: registers below 32, an immediate that the format can
-- hold, and 0 for what it lacks
abbrev pub FitsFormat : Format → Instr → Type 0
FitsFormat RType i = IsRegister i.rd × IsRegister i.rs1 × IsRegister i.rs2 × (i.imm ≡ 0)
FitsFormat IType i = IsRegister i.rd × IsRegister i.rs1 × (i.rs2 ≡ 0) × IsSignExtended 12 i.imm
FitsFormat SType i = (i.rd ≡ 0) × IsRegister i.rs1 × IsRegister i.rs2 × IsSignExtended 12 i.imm
FitsFormat BType i = (i.rd ≡ 0) × IsRegister i.rs1 × IsRegister i.rs2 × IsSignExtended 13 i.imm × (i.imm % 2 ≡ 0)
FitsFormat UType i = IsRegister i.rd × (i.rs1 ≡ 0) × (i.rs2 ≡ 0) × (i.imm < 2 ^ 32) × (i.imm % 2 ^ 12 ≡ 0)
FitsFormat JType i = IsRegister i.rd × (i.rs1 ≡ 0) × (i.rs2 ≡ 0) × IsSignExtended 21 i.imm × (i.imm % 2 ≡ 0)
FitsFormat ShiftType i = IsRegister i.rd × IsRegister i.rs1 × (i.rs2 ≡ 0) × (i.imm < 32)
FitsFormat WordType i = (i.rd ≡ 0) × (i.rs1 ≡ 0) × (i.rs2 ≡ 0) × (i.imm ≡ 0)

-- the fields are in the range of the format that the operation has
abbrev pub IsEncodable : Instr → Type 0
IsEncodable i = FitsFormat (row_for i.op).format i
