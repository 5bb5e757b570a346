use Rattle.std.proofs.Common.{arith}
use Rattle.tm_dump.specs.Fields.{output_bytes}
use Rattle.tm_dump.proofs.Lengths.{length-output_bytes}
use Rattle.tm_dump.proofs.Writing.{lacks_next}
use Rattle.tm_dump.proofs.rings.put_output_entries.Goals as goal

pub loop-index-preserved : goal.loop-index-preserved
loop-index-preserved c = record {
  written = lacks_next output_bytes c.args.ring.now.items c.loop-index.index c.kept.result _ _ _ _ c.kept.ensures c.loop-index.invariant.written c.put_output.ensures;
  len = omega (arith, length-output_bytes c.kept.result, c.put_output.ensures.len);
}
