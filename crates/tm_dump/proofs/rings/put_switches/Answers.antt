use Rattle.std.proofs.Common.{arith}
use Rattle.tm_dump.specs.Fields.{switch_bytes}
use Rattle.tm_dump.proofs.Lengths.{length-switch_bytes}
use Rattle.tm_dump.proofs.Writing.{lacks_next}
use Rattle.tm_dump.proofs.rings.put_switches.Goals as goal

pub loop-index-preserved : goal.loop-index-preserved
loop-index-preserved c = record {
  written = lacks_next switch_bytes c.args.ring.now.items c.loop-index.index c.kept.result _ _ _ _ c.kept.ensures c.loop-index.invariant.written c.put_switch.ensures;
  len = omega (arith, length-switch_bytes c.kept.result, c.put_switch.ensures.len);
}
