use Rattle.std.proofs.Common.{◌≡◌, ◌+◌, ◌%◌, ◌^◌, ◌<◌, ℕ, length}
use Rattle.tm_marker.specs.declared.marker.TheConstants.{EPOCH_LENGTH}
use Rattle.tm_task.specs.Parts.{body_at}
use Rattle.tm_task.specs.Standing.{task_view}
use Rattle.tm_task.specs.RunsOn.{RunsOn}
use Rattle.tm_task.proofs.run.turns.Given as goal

abbrev pub invariant-loop-done : goal.invariant-loop-done
invariant-loop-done l = record {
  ran : (entry epoch : ℕ) →
      RunsOn l.code l.done
      (task_view entry (body_at l.fn.pc l.fn.regs l.fn.words) epoch l.fn.count)
      (task_view entry (body_at l.pc l.regs l.words) epoch l.count);
  aligned : l.pc % 4 ≡ 0;
  small : l.pc < 2 ^ 32;
  room : l.count + 1 < EPOCH_LENGTH;
  registers : length l.regs ≡ length l.fn.regs;
  words : length l.words ≡ length l.fn.words;
}
