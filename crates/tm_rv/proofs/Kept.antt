-- What is known of the instruction that is kept for a word.
use Rattle.std.proofs.Common.{◌≡◌, refl, ℕ, false, Option, Some, None, arith}
use Rattle.std.specs.Option.{option_map}
use Rattle.tm_rv.specs.declared.instr.Set.{Set}
use Rattle.tm_rv.specs.declared.instr.Op.{Op}
use Rattle.tm_rv.specs.declared.instr.Op.TheVariants.{Ebreak}
use Rattle.tm_rv.specs.Table.{Format, RType, IType, SType, BType, UType, JType, ShiftType, WordType, row_for, op_of}
use Rattle.tm_rv.specs.Instr.{split, instr_of}
use Rattle.tm_rv.specs.Code.{kept, is_none, IsNeverNone, HasRegisters}

split_registers : (format : Format) (op : Op) (word : ℕ) → HasRegisters (split format op word)
split_registers RType op word = record { rd = omega arith; rs1 = omega arith; rs2 = omega arith }
split_registers IType op word = record { rd = omega arith; rs1 = omega arith; rs2 = omega arith }
split_registers SType op word = record { rd = omega arith; rs1 = omega arith; rs2 = omega arith }
split_registers BType op word = record { rd = omega arith; rs1 = omega arith; rs2 = omega arith }
split_registers UType op word = record { rd = omega arith; rs1 = omega arith; rs2 = omega arith }
split_registers JType op word = record { rd = omega arith; rs1 = omega arith; rs2 = omega arith }
split_registers ShiftType op word = record { rd = omega arith; rs1 = omega arith; rs2 = omega arith }
split_registers WordType op word = record { rd = omega arith; rs1 = omega arith; rs2 = omega arith }

-- only EBREAK is looked at further, and its immediate is 0
split_is_some : (op : Op) (word : ℕ) → is_none (split (row_for op).format op word) ≡ false
split_is_some Ebreak word = refl
split_is_some _ word = refl

of_operation_registers : (operation : Option Op) (word : ℕ) → HasRegisters (kept (option_map (λ op. split (row_for op).format op word) operation))
of_operation_registers None word = record { rd = omega arith; rs1 = omega arith; rs2 = omega arith }
of_operation_registers (Some op) word = split_registers (row_for op).format op word

of_operation_some : (operation : Option Op) (word : ℕ) → IsNeverNone (option_map (λ op. split (row_for op).format op word) operation)
of_operation_some None word = tt
of_operation_some (Some op) word = split_is_some op word

-- the registers of what is kept are in range, for any number
pub kept_registers : (word : ℕ) (set : Set) → HasRegisters (kept (instr_of word set))
unfolding instr_of
kept_registers word set = of_operation_registers (op_of word set) word

-- no instruction of a word is taken for none
pub never_none : (word : ℕ) (set : Set) → IsNeverNone (instr_of word set)
unfolding instr_of
never_none word set = of_operation_some (op_of word set) word
