-- The table of the instructions: for each operation its format, and the words that belong to it.
use Rattle.std.specs.Prelude.{ℕ, List, [], ◌∷◌, ◌++◌, Option, Bool, ◌==◌, find, map, bit_and}
use Rattle.std.specs.Option.{option_map}
use Rattle.tm_rv.specs.declared.instr.Op.{Op}
use Rattle.tm_rv.specs.declared.instr.Set.{Set}
use Rattle.tm_rv.specs.declared.instr.Set.TheVariants as set
use Rattle.tm_rv.specs.declared.instr.Op.TheVariants.{Lui, Auipc, Jal, Jalr, Beq, Bne, Blt, Bge, Bltu, Bgeu, Lb, Lh, Lw, Lbu, Lhu, Sb, Sh, Sw, Addi, Slti, Sltiu, Xori, Ori, Andi, Slli, Srli, Srai, Add, Sub, Sll, Slt, Sltu, Xor, Srl, Sra, Or, And, Fence, Ecall, Ebreak, Mul, Mulh, Mulhsu, Mulhu, Div, Divu, Rem, Remu}

-- where a word has its fields: the standard's six formats, a shift by an immediate amount, and
-- an operation that is one word
pub data Format : Type 0 where
  RType : Format
  IType : Format
  SType : Format
  BType : Format
  UType : Format
  JType : Format
  ShiftType : Format
  WordType : Format

-- a row: the words of the operation are those of which the mask leaves these bits
pub record Row : Type 0 where
  pub op : Op
  pub format : Format
  pub mask : ℕ
  pub bits : ℕ

-- a row of these parts
abbrev pub row : Op → Format → ℕ → ℕ → Row
row op format mask bits = record { op = op; format = format; mask = mask; bits = bits }

-- the row of an operation
abbrev pub row_for : Op → Row
row_for Lui = row Lui UType 0x0000007f 0x00000037
row_for Auipc = row Auipc UType 0x0000007f 0x00000017
row_for Jal = row Jal JType 0x0000007f 0x0000006f
row_for Jalr = row Jalr IType 0x0000707f 0x00000067
row_for Beq = row Beq BType 0x0000707f 0x00000063
row_for Bne = row Bne BType 0x0000707f 0x00001063
row_for Blt = row Blt BType 0x0000707f 0x00004063
row_for Bge = row Bge BType 0x0000707f 0x00005063
row_for Bltu = row Bltu BType 0x0000707f 0x00006063
row_for Bgeu = row Bgeu BType 0x0000707f 0x00007063
row_for Lb = row Lb IType 0x0000707f 0x00000003
row_for Lh = row Lh IType 0x0000707f 0x00001003
row_for Lw = row Lw IType 0x0000707f 0x00002003
row_for Lbu = row Lbu IType 0x0000707f 0x00004003
row_for Lhu = row Lhu IType 0x0000707f 0x00005003
row_for Sb = row Sb SType 0x0000707f 0x00000023
row_for Sh = row Sh SType 0x0000707f 0x00001023
row_for Sw = row Sw SType 0x0000707f 0x00002023
row_for Addi = row Addi IType 0x0000707f 0x00000013
row_for Slti = row Slti IType 0x0000707f 0x00002013
row_for Sltiu = row Sltiu IType 0x0000707f 0x00003013
row_for Xori = row Xori IType 0x0000707f 0x00004013
row_for Ori = row Ori IType 0x0000707f 0x00006013
row_for Andi = row Andi IType 0x0000707f 0x00007013
row_for Slli = row Slli ShiftType 0xfe00707f 0x00001013
row_for Srli = row Srli ShiftType 0xfe00707f 0x00005013
row_for Srai = row Srai ShiftType 0xfe00707f 0x40005013
row_for Add = row Add RType 0xfe00707f 0x00000033
row_for Sub = row Sub RType 0xfe00707f 0x40000033
row_for Sll = row Sll RType 0xfe00707f 0x00001033
row_for Slt = row Slt RType 0xfe00707f 0x00002033
row_for Sltu = row Sltu RType 0xfe00707f 0x00003033
row_for Xor = row Xor RType 0xfe00707f 0x00004033
row_for Srl = row Srl RType 0xfe00707f 0x00005033
row_for Sra = row Sra RType 0xfe00707f 0x40005033
row_for Or = row Or RType 0xfe00707f 0x00006033
row_for And = row And RType 0xfe00707f 0x00007033
row_for Fence = row Fence IType 0x0000707f 0x0000000f
row_for Ecall = row Ecall WordType 0xffffffff 0x00000073
row_for Ebreak = row Ebreak WordType 0xffffffff 0x00100073
row_for Mul = row Mul RType 0xfe00707f 0x02000033
row_for Mulh = row Mulh RType 0xfe00707f 0x02001033
row_for Mulhsu = row Mulhsu RType 0xfe00707f 0x02002033
row_for Mulhu = row Mulhu RType 0xfe00707f 0x02003033
row_for Div = row Div RType 0xfe00707f 0x02004033
row_for Divu = row Divu RType 0xfe00707f 0x02005033
row_for Rem = row Rem RType 0xfe00707f 0x02006033
row_for Remu = row Remu RType 0xfe00707f 0x02007033

-- the operations of RV32I, in the order of the table
abbrev pub base : List Op
base =
    Lui ∷ Auipc ∷ Jal ∷ Jalr ∷ Beq ∷ Bne ∷ Blt ∷ Bge ∷ Bltu ∷ Bgeu ∷
    Lb ∷ Lh ∷ Lw ∷ Lbu ∷ Lhu ∷ Sb ∷ Sh ∷ Sw ∷
    Addi ∷ Slti ∷ Sltiu ∷ Xori ∷ Ori ∷ Andi ∷ Slli ∷ Srli ∷ Srai ∷
    Add ∷ Sub ∷ Sll ∷ Slt ∷ Sltu ∷ Xor ∷ Srl ∷ Sra ∷ Or ∷ And ∷
    Fence ∷ Ecall ∷ Ebreak ∷ []

-- the operations of RV32M
abbrev pub multiplications : List Op
multiplications = Mul ∷ Mulh ∷ Mulhsu ∷ Mulhu ∷ Div ∷ Divu ∷ Rem ∷ Remu ∷ []

-- the operations of a set
abbrev pub operations : Set → List Op
operations set.Base = base
operations set.Mul = base ++ multiplications

-- the table of a set
abbrev pub rows : Set → List Row
rows s = map row_for (operations s)

-- the mask leaves the row's bits of the word
abbrev pub belongs : ℕ → Row → Bool
belongs word r = bit_and word r.mask == r.bits

-- the operation of the first row of the set's table that the word belongs to
unfoldable pub op_of : ℕ → Set → Option Op
op_of word s = option_map (λ r. r.op) (find (belongs word) (rows s))
