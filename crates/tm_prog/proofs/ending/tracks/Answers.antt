use Rattle.std.proofs.Common.{rules}
use Rattle.tm_prog.proofs.Endings.{tracks_more}
use Rattle.tm_prog.proofs.ending.tracks.Goals as goal

pub loop-task-preserved : goal.loop-task-preserved
loop-task-preserved c =
    tracks_more _ _ _ _ c.loop-task.all.items _ c.in_ok-track.field-0 c.loop-task.invariant (search rules) (search rules) c.in_ok-track.ensures.number c.in_ok-track.ensures.outputs
