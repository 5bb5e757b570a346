use Rattle.tm_observe.proofs.Seeing.{looked_none, looked_more}
use Rattle.tm_observe.proofs.looker.look_often.Goals as goal

pub loop-init : goal.loop-init
loop-init g c = looked_none c.args.looker.now

pub loop-preserved : goal.loop-preserved
loop-preserved g c = looked_more c.loop.counter c.args.looker.now c.loop.looker c.look.new.self c.loop.invariant c.look.ensures
