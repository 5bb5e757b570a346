use Rattle.std.specs.List.{flat_map, zip}
use Rattle.std.proofs.Common.{◌≡◌, ◌+◌, ◌*◌, drop, vec_len}
use Rattle.tm_dump.specs.Dump.{stand_bytes}
use Rattle.tm_dump.specs.Room.{Lacks}
use Rattle.tm_dump.proofs.body.put_stands.Given as goal

abbrev pub invariant-loop-task : goal.invariant-loop-task
invariant-loop-task l = record {
  written : Lacks l.fn.into l.into (flat_map stand_bytes (zip l.tail.at l.tail.state)) (flat_map stand_bytes (drop l.task (zip l.tail.at l.tail.state)));
  len : vec_len l.into ≡ vec_len l.fn.into + 17 * l.task;
}
