-- The word of an instruction, as the encoder puts it together.
use Rattle.std.specs.Prelude.{ℕ, ◌+◌, ◌*◌, ◌^◌}
use Rattle.tm_rv.specs.declared.instr.Instr.{Instr}
use Rattle.tm_rv.specs.Table.{Format, RType, IType, SType, BType, UType, JType, ShiftType, WordType, row_for}
use Rattle.tm_rv.specs.Instr.{field}

-- the immediate's bits in their places
abbrev pub placed : Format → ℕ → ℕ
placed RType imm = 0
placed IType imm = field imm 11 0 * 2 ^ 20
placed SType imm = field imm 11 5 * 2 ^ 25 + field imm 4 0 * 2 ^ 7
placed BType imm =
    field imm 12 12 * 2 ^ 31 + field imm 10 5 * 2 ^ 25 + field imm 4 1 * 2 ^ 8 + field imm 11 11 * 2 ^ 7
placed UType imm = imm
placed JType imm =
    field imm 20 20 * 2 ^ 31 + field imm 10 1 * 2 ^ 21 + field imm 11 11 * 2 ^ 20 + field imm 19 12 * 2 ^ 12
placed ShiftType imm = field imm 4 0 * 2 ^ 20
placed WordType imm = 0

-- the row's bits and the fields, each in its place
abbrev pub joined : ℕ → ℕ → ℕ → ℕ → ℕ → ℕ
joined bits rd rs1 rs2 immediate = bits + rd * 2 ^ 7 + rs1 * 2 ^ 15 + rs2 * 2 ^ 20 + immediate

-- the word of an instruction
abbrev pub word_of : Instr → ℕ
word_of i = joined (row_for i.op).bits i.rd i.rs1 i.rs2 (placed (row_for i.op).format i.imm)
