use Rattle.std.proofs.Common.{◌≡◌, ◌-◌, ◌≤◌}
use Rattle.tm_system.specs.History.{History}
use Rattle.tm_system.specs.Run.{turns}
use Rattle.tm_system.specs.Hearing.{heard, after_turns, StandAt}
use Rattle.tm_system.proofs.machine.Machine.instructions.Given as goal

abbrev pub decreases-loop-done : goal.decreases-loop-done
decreases-loop-done g l = l.most - l.done

abbrev pub invariant-loop-done : goal.invariant-loop-done
invariant-loop-done g l = record {
  within : l.done ≤ l.most;
  stand : (h : History) → StandAt g.L.Listener.stands l.image l.fn.self l.fn.listener h →
      StandAt g.L.Listener.stands l.image l.self l.listener (turns l.image l.done h);
  heard : heard l.self l.listener ≡ after_turns g.L.Listener.hears l.image l.done (heard l.fn.self l.fn.listener);
}
