use Rattle.tm_prog.specs.Teller.{TracksFirst}
use Rattle.tm_prog.proofs.ending.tracks.Given as goal

abbrev pub invariant-loop-task : goal.invariant-loop-task
invariant-loop-task l = TracksFirst l.machine l.printed l.pending l.task l.all.items
