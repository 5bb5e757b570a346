use Rattle.std.proofs.Common.{◌≡◌, ℕ, ◌+◌, ◌*◌, ◌<◌, length, arith}
use Rattle.tm_dump.specs.Fields.{checkpoint_bytes}
use Rattle.tm_dump.proofs.Writing.{lacks_next, there_is}
use Rattle.tm_dump.proofs.checkpoints.put_checkpoints.Goals as goal

more : (size i : ℕ) → size * (i + 1) ≡ size * i + size
more size i = omega arith

pub loop-index-preserved : goal.loop-index-preserved
loop-index-preserved c =
    let below : c.loop-index.index < length c.args.checks.now.items = omega arith in
    let k = there_is c.args.checks.now.items c.loop-index.index below in
    record {
      written = lacks_next checkpoint_bytes c.args.checks.now.items c.loop-index.index k.0 _ _ _ _ k.1 c.loop-index.invariant.written
          (c.put_checkpoint.ensures.gains k.0 k.1);
      len = omega (arith, more (144 + 4 * c.args.checks.now.words) c.loop-index.index, c.put_checkpoint.ensures.len, c.loop-index.invariant.len);
    }
