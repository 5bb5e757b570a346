-- A text, and the instruction that is kept for each of its words.
use Rattle.std.specs.Prelude.{◌≡◌, ℕ, List, Bool, true, false, ◌==◌, ◌&&◌, Option, Some, None, IfSome}
use Rattle.tm_rv.specs.declared.instr.Op.{Op}
use Rattle.tm_rv.specs.declared.instr.Op.TheVariants.{Ebreak}
use Rattle.tm_rv.specs.declared.instr.Instr.{Instr}
use Rattle.tm_rv.specs.declared.instr.Set.{Set}
use Rattle.tm_rv.specs.Instr.{IsRegister, instr}

-- a text: its words, and the instructions that they may be
pub record Text : Type 0 where
  pub words : List ℕ
  pub set : Set

-- an instruction is kept as it is, and none as an EBREAK whose immediate is 1
abbrev pub kept : Option Instr → Instr
kept None = instr Ebreak 0 0 0 1
kept (Some i) = i

abbrev pub is_ebreak : Op → Bool
is_ebreak Ebreak = true
is_ebreak _ = false

-- what is kept stands for no instruction
abbrev pub is_none : Instr → Bool
is_none i = is_ebreak i.op && i.imm == 1

-- the instruction, where there is one, isn't taken for none
abbrev pub IsNeverNone : Option Instr → Type 0
IsNeverNone i = IfSome i (λ kept. is_none kept ≡ false)

-- the numbers of the registers are in range
pub record HasRegisters (i : Instr) : Type 0 where
  pub rd : IsRegister i.rd
  pub rs1 : IsRegister i.rs1
  pub rs2 : IsRegister i.rs2
