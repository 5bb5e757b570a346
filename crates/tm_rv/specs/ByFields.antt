-- The rows as the decoder tells them apart: by opcode, funct3 and funct7 in place of masks.
use Rattle.std.specs.Prelude.{ℕ, ◌/◌, ◌%◌, ◌^◌, Option, Bool, List, ◌==◌, ◌&&◌, find, map}
use Rattle.std.specs.Option.{option_map}
use Rattle.tm_rv.specs.declared.instr.Op.{Op}
use Rattle.tm_rv.specs.Table.{Format, RType, IType, SType, BType, UType, JType, ShiftType, WordType, row_for, base}

-- the opcode of these bits
abbrev pub has_opcode : ℕ → ℕ → Bool
has_opcode bits opcode = opcode == bits % 2 ^ 7

-- the opcode and funct3 of these bits
abbrev pub has_funct3 : ℕ → ℕ → ℕ → Bool
has_funct3 bits opcode funct3 = has_opcode bits opcode && funct3 == bits / 2 ^ 12 % 2 ^ 3

-- the opcode, funct3 and funct7 of these bits
abbrev pub has_funct7 : ℕ → ℕ → ℕ → ℕ → Bool
has_funct7 bits opcode funct3 funct7 = has_funct3 bits opcode funct3 && funct7 == bits / 2 ^ 25

-- the fields that tell an operation of the format are those of these bits
abbrev pub fields_match : Format → ℕ → ℕ → ℕ → ℕ → ℕ → Bool
fields_match RType bits opcode funct3 funct7 word = has_funct7 bits opcode funct3 funct7
fields_match IType bits opcode funct3 funct7 word = has_funct3 bits opcode funct3
fields_match SType bits opcode funct3 funct7 word = has_funct3 bits opcode funct3
fields_match BType bits opcode funct3 funct7 word = has_funct3 bits opcode funct3
fields_match UType bits opcode funct3 funct7 word = has_opcode bits opcode
fields_match JType bits opcode funct3 funct7 word = has_opcode bits opcode
fields_match ShiftType bits opcode funct3 funct7 word = has_funct7 bits opcode funct3 funct7
fields_match WordType bits opcode funct3 funct7 word = has_opcode bits opcode && word == bits

-- the operation of the first of these rows that has these fields
abbrev pub op_among : List Op → ℕ → ℕ → ℕ → ℕ → Option Op
op_among ops opcode funct3 funct7 word =
    option_map (λ r. r.op) (find (λ r. fields_match r.format r.bits opcode funct3 funct7 word) (map row_for ops))

-- the operation of RV32I that has these fields
abbrev pub op_by : ℕ → ℕ → ℕ → ℕ → Option Op
op_by = op_among base
