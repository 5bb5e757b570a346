use Rattle.std.proofs.Common.{◌≡◌, ◌+◌, ◌*◌, ◌≤◌, ◌++◌, flat_map, take, vec_len, vec_capacity}
use Rattle.tm_plant.specs.Tape.{slice_line}
use Rattle.tm_plant.proofs.tape.put_slices.Given as goal

abbrev pub invariant-loop-slice : goal.invariant-loop-slice
invariant-loop-slice l = record {
  written : l.into.items ≡ l.fn.into.items ++ flat_map slice_line (take l.slice-index l.slices);
  len : vec_len l.into ≤ vec_len l.fn.into + 65 * l.slice-index;
  capacity : vec_capacity l.fn.into ≤ vec_capacity l.into;
}
