-- What each row of the table has: its operation, its place, and bits that its format fixes.
use Rattle.std.proofs.Common.{◌≡◌, ℕ, ◌+◌, ◌*◌, ◌/◌, ◌%◌, ◌^◌, zero, suc, refl, subst, Bool, true, List, [], ◌∷◌, Some}
use Rattle.std.proofs.lemmas.Bool.{and_parts}
use Rattle.std.proofs.lemmas.Option.{same_Some}
use Rattle.std.specs.Prelude.{◌==◌, ◌&&◌, nat_lt, slice_get}
use Rattle.std.specs.List.{list_all}
use Rattle.tm_rv.specs.declared.instr.Op.{Op}
use Rattle.tm_rv.specs.declared.instr.Op.TheVariants.{Lui, Auipc, Jal, Jalr, Beq, Bne, Blt, Bge, Bltu, Bgeu, Lb, Lh, Lw, Lbu, Lhu, Sb, Sh, Sw, Addi, Slti, Sltiu, Xori, Ori, Andi, Slli, Srli, Srai, Add, Sub, Sll, Slt, Sltu, Xor, Srl, Sra, Or, And, Fence, Ecall, Ebreak, Mul, Mulh, Mulhsu, Mulhu, Div, Divu, Rem, Remu}
use Rattle.tm_rv.specs.declared.instr.Set.TheVariants as set
use Rattle.tm_rv.specs.Table.{Format, RType, IType, SType, BType, UType, JType, ShiftType, WordType, Row, row_for, rows}

-- each operation has a place in the greater table, and is its row's
pub record IsListed (op : Op) : Type 0 where
  pub place : ℕ
  pub there : slice_get (rows set.Mul) place ≡ Some (row_for op)
  pub own : (row_for op).op ≡ op

pub listed : (op : Op) → IsListed op
listed Lui = record { place = 0; there = refl; own = refl }
listed Auipc = record { place = 1; there = refl; own = refl }
listed Jal = record { place = 2; there = refl; own = refl }
listed Jalr = record { place = 3; there = refl; own = refl }
listed Beq = record { place = 4; there = refl; own = refl }
listed Bne = record { place = 5; there = refl; own = refl }
listed Blt = record { place = 6; there = refl; own = refl }
listed Bge = record { place = 7; there = refl; own = refl }
listed Bltu = record { place = 8; there = refl; own = refl }
listed Bgeu = record { place = 9; there = refl; own = refl }
listed Lb = record { place = 10; there = refl; own = refl }
listed Lh = record { place = 11; there = refl; own = refl }
listed Lw = record { place = 12; there = refl; own = refl }
listed Lbu = record { place = 13; there = refl; own = refl }
listed Lhu = record { place = 14; there = refl; own = refl }
listed Sb = record { place = 15; there = refl; own = refl }
listed Sh = record { place = 16; there = refl; own = refl }
listed Sw = record { place = 17; there = refl; own = refl }
listed Addi = record { place = 18; there = refl; own = refl }
listed Slti = record { place = 19; there = refl; own = refl }
listed Sltiu = record { place = 20; there = refl; own = refl }
listed Xori = record { place = 21; there = refl; own = refl }
listed Ori = record { place = 22; there = refl; own = refl }
listed Andi = record { place = 23; there = refl; own = refl }
listed Slli = record { place = 24; there = refl; own = refl }
listed Srli = record { place = 25; there = refl; own = refl }
listed Srai = record { place = 26; there = refl; own = refl }
listed Add = record { place = 27; there = refl; own = refl }
listed Sub = record { place = 28; there = refl; own = refl }
listed Sll = record { place = 29; there = refl; own = refl }
listed Slt = record { place = 30; there = refl; own = refl }
listed Sltu = record { place = 31; there = refl; own = refl }
listed Xor = record { place = 32; there = refl; own = refl }
listed Srl = record { place = 33; there = refl; own = refl }
listed Sra = record { place = 34; there = refl; own = refl }
listed Or = record { place = 35; there = refl; own = refl }
listed And = record { place = 36; there = refl; own = refl }
listed Fence = record { place = 37; there = refl; own = refl }
listed Ecall = record { place = 38; there = refl; own = refl }
listed Ebreak = record { place = 39; there = refl; own = refl }
listed Mul = record { place = 40; there = refl; own = refl }
listed Mulh = record { place = 41; there = refl; own = refl }
listed Mulhsu = record { place = 42; there = refl; own = refl }
listed Mulhu = record { place = 43; there = refl; own = refl }
listed Div = record { place = 44; there = refl; own = refl }
listed Divu = record { place = 45; there = refl; own = refl }
listed Rem = record { place = 46; there = refl; own = refl }
listed Remu = record { place = 47; there = refl; own = refl }

-- bits that stand in the opcode; with funct3; with funct7
abbrev pub in_opcode : ℕ → Bool
in_opcode bits = nat_lt bits (2 ^ 7)

abbrev pub in_funct3 : ℕ → Bool
in_funct3 bits = bits == bits / 2 ^ 12 % 2 ^ 3 * 2 ^ 12 + bits % 2 ^ 7

abbrev pub in_funct7 : ℕ → Bool
in_funct7 bits = nat_lt bits (2 ^ 32) && bits == bits / 2 ^ 25 * 2 ^ 25 + (bits / 2 ^ 12 % 2 ^ 3 * 2 ^ 12 + bits % 2 ^ 7)

-- the mask is the format's, and the bits stand within it
abbrev pub is_regular : Format → ℕ → ℕ → Bool
is_regular RType mask bits = mask == 0xfe00707f && in_funct7 bits
is_regular IType mask bits = mask == 0x707f && in_funct3 bits
is_regular SType mask bits = mask == 0x707f && in_funct3 bits
is_regular BType mask bits = mask == 0x707f && in_funct3 bits
is_regular UType mask bits = mask == 0x7f && in_opcode bits
is_regular JType mask bits = mask == 0x7f && in_opcode bits
is_regular ShiftType mask bits = mask == 0xfe00707f && in_funct7 bits
is_regular WordType mask bits = mask == 0xffffffff && nat_lt bits (2 ^ 32)

regular_at : (rs : List Row) (k : ℕ) (r : Row) → list_all (λ s. is_regular s.format s.mask s.bits) rs ≡ true →
    slice_get rs k ≡ Some r → is_regular r.format r.mask r.bits ≡ true
regular_at [] k r all at = cc
regular_at (x ∷ rs) zero r all at =
    subst (λ (s : Row). is_regular s.format s.mask s.bits ≡ true) (same_Some x r at) (and_parts _ _ all).0
regular_at (x ∷ rs) (suc k) r all at = regular_at rs k r (and_parts _ _ all).1 at

pub row_is_regular : (op : Op) → is_regular (row_for op).format (row_for op).mask (row_for op).bits ≡ true
row_is_regular op = regular_at (rows set.Mul) (listed op).place (row_for op) refl (listed op).there
