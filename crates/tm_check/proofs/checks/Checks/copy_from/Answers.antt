use Rattle.std.proofs.Common.{rules}
use Rattle.tm_check.proofs.checks.Checks.copy_from.Goals as goal

pub copy_slots-requires-clause-sized : goal.copy_slots-requires-clause-sized
copy_slots-requires-clause-sized c = record {
  size = c.self.inside.words;
  first = search rules;
  second = c.self.invariant.sized;
}
