use Rattle.std.proofs.Common.{◌≡◌}
use Rattle.tm_elf.specs.declared.header.TheConstants.{TEXT_START}
use Rattle.tm_elf.specs.Loads.{loaded_words}
use Rattle.tm_elf.proofs.memory.text.Given as goal

abbrev pub invariant-loop-index : goal.invariant-loop-index
invariant-loop-index l = l.text ≡ record { words = loaded_words l.bytes l.loads TEXT_START l.index; set = l.fn.set }
