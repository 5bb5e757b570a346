use Rattle.std.proofs.Common.{◌≡◌}
use Rattle.tm_marker.specs.declared.body.TheConstants.{DATA_START}
use Rattle.tm_elf.specs.Loads.{loaded_words}
use Rattle.tm_elf.proofs.memory.data.Given as goal

abbrev pub invariant-loop-index : goal.invariant-loop-index
invariant-loop-index l = l.words.items ≡ loaded_words l.bytes l.loads DATA_START l.index
