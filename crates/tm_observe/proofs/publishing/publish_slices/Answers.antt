use Rattle.std.proofs.Common.{arith}
use Rattle.tm_observe.proofs.Onward.{published_length, published_more}
use Rattle.tm_observe.proofs.publishing.publish_slices.Goals as goal

pub publish-requires-clause-few : goal.publish-requires-clause-few
publish-requires-clause-few g c =
    let published = published_length c.loop.counter c.args.pace.now.len c.args.kernel.now c.loop.kernel c.args.tape.now c.loop.tape c.args.watch.now c.loop.watch c.loop.invariant in
    omega (arith, published, c.requires.allowed, c.loop-test.true)

pub loop-preserved : goal.loop-preserved
loop-preserved g c =
    published_more c.loop.counter c.args.pace.now.len c.args.kernel.now c.loop.kernel c.args.tape.now c.loop.tape c.args.watch.now c.loop.watch c.loop.invariant
    c.take_slice-slice.result c.take_slice-slice.ensures.length c.take_slice-slice.new.kernel c.push.new.self c.publish.new.self
    c.take_slice-slice.ensures.kernel c.push.ensures c.in_ok-publish.ensures.ok
