use Rattle.std.proofs.Common.{ap, sym, ◌∙◌, arith}
use Rattle.std.specs.Prelude.{option_copied}
use Rattle.tm_text.proofs.Stops.{block_more, blocks_end}
use Rattle.tm_text.proofs.replay.put_blocks.Goals as goal

pub loop-number-preserved : goal.loop-number-preserved
loop-number-preserved c = record {
  written =
      block_more c.loop-number.into.items _ _ c.args.tracks.now c.args.control.now c.loop-number.number c.in-Some.entry.now
      (option_copied c.stop_of-stop.result) (omega arith) (sym c.get.ensures.item ∙ ap option_copied c.in-Some.is)
      c.stop_of-stop.ensures.stop c.in_ok-put_block.ensures.ok c.loop-number.invariant.written;
  keeps = λ start begins. c.in_ok-put_block.ensures.keeps start (c.loop-number.invariant.keeps start begins);
  before = c.stop_of-stop.ensures.written;
}

pub returns-clause-ok : goal.returns-clause-ok
returns-clause-ok c = blocks_end _ _ c.args.tracks.now c.args.control.now c.loop-number.number (omega arith) (omega arith) c.loop-number.invariant.written
