use Rattle.tm_record.proofs.Ending.{IsBooting}
use Rattle.tm_record.proofs.recording.Recording.boot.Given as goal

abbrev pub invariant-loop-task : goal.invariant-loop-task
invariant-loop-task l = IsBooting l.image l.machine l.window l.task
