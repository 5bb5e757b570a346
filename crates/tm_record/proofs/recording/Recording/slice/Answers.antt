use Rattle.std.proofs.Common.{ap, ◌∙◌}
use Rattle.tm_log.specs.Window.{WindowView}
use Rattle.tm_system.specs.Hearing.{heard}
use Rattle.tm_record.specs.Contents.{with_tail}
use Rattle.tm_record.proofs.Ending.{closed_recorded, recorded_noted}
use Rattle.tm_record.proofs.recording.Recording.slice.Goals as goal

pub returns-clause-recorded : goal.returns-clause-recorded
returns-clause-recorded c = λ h r. closed_recorded _ _ _ _ _ (c.in-Ok.ensures.stand h (recorded_noted _ _ _ h r)) c.close.ensures

pub returns-clause-contents : goal.returns-clause-contents
returns-clause-contents c = ap (λ (w : WindowView). heard c.slice.new.self w) c.close.ensures ∙ ap with_tail c.in-Ok.ensures.heard
