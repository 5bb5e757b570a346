-- What one turn of a run of instructions leaves.
use Rattle.std.specs.Prelude.{◌≡◌, ℕ, ◌+◌, ◌<◌, true, List}
use Rattle.tm_marker.specs.declared.marker.TheConstants.{EPOCH_LENGTH}
use Rattle.tm_rv.specs.Code.{Text}
use Rattle.tm_task.specs.Standing.{TaskView, is_full}
use Rattle.tm_task.specs.Stepped.{DidRun}
use Rattle.tm_task.specs.RunsOn.{Stays}
use Rattle.tm_task.specs.declared.run.Turned.{Turned}
use Rattle.tm_task.specs.declared.run.Turned.TheVariants.{On, Last, Stopped}

-- the instruction was executed, and the next backward transfer begins no epoch
pub record GoesOn (text : Text) (old new : TaskView) : Type 0 where
  pub did : DidRun text old new
  pub room : new.standing.count + 1 < EPOCH_LENGTH

-- the instruction was executed, and the next backward transfer begins an epoch
pub record Fills (text : Text) (old new : TaskView) : Type 0 where
  pub did : DidRun text old new
  pub full : is_full new.standing ≡ true

-- the turn is what its answer says
abbrev pub Turns : Text → Turned → TaskView → TaskView → Type 0
Turns text On old new = GoesOn text old new
Turns text Last old new = Fills text old new
Turns text Stopped old new = Stays text old new
