use Rattle.std.proofs.Common.{◌≡◌, ◌-◌, ◌≤◌, map}
use Rattle.std.specs.List.{range_with_len}
use Rattle.arrayvec.specs.ArrayVec.{array_vec_len}
use Rattle.tm_elf.specs.Fields.{header_count}
use Rattle.tm_elf.specs.Loads.{loads_before}
use Rattle.tm_elf.specs.Elf.{first, segment_fault, wrong_segment}
use Rattle.tm_elf.proofs.loads.read_loads.Given as goal

abbrev pub invariant-loop-number : goal.invariant-loop-number
invariant-loop-number l = record {
  read : l.loads.items ≡ loads_before l.bytes l.number;
  rest : first (map (segment_fault l.bytes) (range_with_len l.number (header_count l.bytes - l.number))) ≡ wrong_segment l.bytes;
  few : array_vec_len l.loads ≤ l.number;
}
