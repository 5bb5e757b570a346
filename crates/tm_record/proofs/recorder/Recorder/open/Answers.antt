use Rattle.tm_record.proofs.Scripts.{real_at_boot}
use Rattle.tm_record.proofs.recorder.Recorder.open.Goals as goal

pub invariant_of-result : goal.invariant_of-result
invariant_of-result c = real_at_boot _ _ _ c.in_ok-recording.ensures
