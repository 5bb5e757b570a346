-- How the faults of an executable are numbered, and when code answers as a definition says.
use Rattle.std.specs.Prelude.{◌≡◌, ℕ, Result, Ok, Err}
use Rattle.tm_elf.specs.declared.fault.Why.{Why}
use Rattle.tm_elf.specs.declared.fault.Why.TheVariants.{PastFile, MoreInFile, Outside, Overlap}
use Rattle.tm_elf.specs.declared.fault.ElfFault.{ElfFault}
use Rattle.tm_elf.specs.declared.fault.ElfFault.TheVariants.{Memory}

-- the number that stands for the reason
abbrev pub why_number : Why → ℕ
why_number PastFile = 1
why_number MoreInFile = 2
why_number Outside = 3
why_number Overlap = 4

-- the fact holds, unless the fault is want of memory, of which nothing is said
abbrev pub UnlessMemory : ElfFault → Type 0 → Type 0
UnlessMemory Memory fact = Unit {0}
UnlessMemory _ fact = fact

-- the result, seen through `view`, is what the definition gives; want of memory may come in its place
abbrev pub Gives : {A B : Type 0} → (A → B) → Result A ElfFault → Result B ElfFault → Type 0
Gives view (Ok x) given = given ≡ Ok (view x)
Gives view (Err fault) given = UnlessMemory fault (given ≡ Err fault)
