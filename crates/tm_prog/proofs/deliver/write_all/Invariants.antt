use Rattle.std.proofs.Common.{length, take, ◌-◌, ◌≡◌, ◌≤◌}
use Rattle.tm_io.specs.Sink.{took}
use Rattle.tm_prog.proofs.deliver.write_all.Given as goal

abbrev pub invariant-loop-done : goal.invariant-loop-done
invariant-loop-done g l = record {
  within : l.done ≤ length l.text;
  took : g.K.Sink.seen l.out ≡ took (g.K.Sink.seen l.fn.out) (take l.done l.text);
  silent : l.done ≡ 0 → l.out ≡ l.fn.out;
}

abbrev pub decreases-loop-done : goal.decreases-loop-done
decreases-loop-done g l = length l.text - l.done
