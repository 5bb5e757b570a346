-- A law of every executable that is read.
use Rattle.std.specs.Prelude.{◌≡◌, ℕ, List, AllPairs, IsTrue, Ok}
use Rattle.tm_rv.specs.declared.instr.Set.{Set}
use Rattle.tm_image.specs.Load.{Load}
use Rattle.tm_elf.specs.declared.header.ProgramHeader.{ProgramHeader}
use Rattle.tm_elf.specs.Loads.{covers, loads_of}
use Rattle.tm_elf.specs.Elf.{elf_of}

-- no byte is one of both loads
abbrev pub AreApart : ProgramHeader → ProgramHeader → Type 0
AreApart load other = (address : ℕ) → IsTrue (covers address load) → IsTrue (covers address other) → ⊥

-- no byte is one of two loads of an executable that is read
abbrev pub LoadsAreApart : Type 0
LoadsAreApart = (bytes : List ℕ) (least : ℕ) (s : Set) (load : Load) → elf_of bytes least s ≡ Ok load →
    AllPairs AreApart (loads_of bytes)
