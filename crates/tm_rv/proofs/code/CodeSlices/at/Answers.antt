use Rattle.std.proofs.Common.{◌≡◌, ◌<◌, ℕ, List, length, map, slice_index, slice_index_or, subst, sym, arith}
use Rattle.std.proofs.lemmas.Grind.{common_steps}
use Rattle.tm_rv.specs.Instr.{instr_of}
use Rattle.tm_rv.specs.declared.instr.Instr.{Instr}
use Rattle.tm_rv.specs.declared.instr.Set.{Set}
use Rattle.tm_rv.specs.Code.{kept, HasRegisters, Text}
use Rattle.tm_rv.proofs.Kept.{kept_registers, never_none}
use Rattle.tm_rv.proofs.code.CodeSlices.at.Goals as goal

-- the registers of the instruction that is kept at an index
registers_at : (set : Set) (words : List ℕ) (instrs : List Instr) (index : ℕ) (other : Instr) →
    instrs ≡ map (λ word. kept (instr_of word set)) words → index < length words → HasRegisters (slice_index_or instrs index other)
registers_at set words instrs index other all inside =
    let same : slice_index_or instrs index other ≡ kept (instr_of (slice_index words index) set) = grind (arith, common_steps) in
    subst HasRegisters (sym same) (kept_registers (slice_index words index) set)

pub returns-clause-registers : goal.returns-clause-registers
returns-clause-registers c =
    registers_at c.self.inside.set c.self.inside.words.now _ c.args.index _ c.self.invariant
    (subst (λ (text : Text). c.args.index < length text.words) (sym c.self.view_is) c.requires)

pub returns-clause-told : goal.returns-clause-told
returns-clause-told c = never_none (slice_index c.args.self.now.words c.args.index) c.args.self.now.set
