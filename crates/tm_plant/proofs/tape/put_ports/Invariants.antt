use Rattle.std.proofs.Common.{◌≡◌, ◌+◌, ◌*◌, ◌≤◌, ◌++◌, flat_map, take, vec_len, vec_capacity}
use Rattle.tm_plant.specs.Tape.{port_text}
use Rattle.tm_plant.proofs.tape.put_ports.Given as goal

abbrev pub invariant-loop-word : goal.invariant-loop-word
invariant-loop-word l = record {
  written : l.into.items ≡ l.fn.into.items ++ flat_map port_text (take l.word-index l.ports);
  len : vec_len l.into ≡ vec_len l.fn.into + 11 * l.word-index;
  capacity : vec_capacity l.fn.into ≤ vec_capacity l.into;
}
