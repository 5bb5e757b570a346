use Rattle.tm_live.proofs.Taking.{took_more}
use Rattle.tm_live.proofs.kernel.take_slices.Goals as goal

pub loop-preserved : goal.loop-preserved
loop-preserved g c =
    took_more c.loop.counter c.args.len c.args.kernel.now c.loop.kernel c.args.tape.now c.loop.tape c.args.recorder.now c.loop.recorder c.loop.invariant
    c.take_slice-slice.result c.take_slice-slice.ensures.length c.take_slice-slice.new.kernel c.give.new.tape c.give.new.recorder
    c.take_slice-slice.ensures.kernel c.give.ensures.tape c.give.ensures.stands c.give.ensures.slices
