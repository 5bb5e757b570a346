-- What a step of a task leaves, by what it answers.
use Rattle.std.specs.Prelude.{◌≡◌, ℕ, ◌+◌, ◌<◌, Bool, List}
use Rattle.tm_marker.specs.Order.{IsBefore}
use Rattle.tm_rv.specs.Code.{Text}
use Rattle.tm_task.specs.Exec.{Faults, Calls, Goes, exec}
use Rattle.tm_task.specs.Standing.{TaskView, Standing, went, marker_of}
use Rattle.tm_task.specs.declared.outcome.Cause.{Cause}
use Rattle.tm_task.specs.declared.outcome.Stepped.{Stepped}
use Rattle.tm_task.specs.declared.outcome.Stepped.TheVariants.{Ran, Forced, Call, Fault}

-- the task went on to the next body, by a backward transfer or without
pub record Went (text : Text) (old new : TaskView) : Type 0 where
  pub back : Bool
  pub executed : exec text old.standing.body ≡ Goes new.standing.body back
  pub standing : new.standing ≡ went old.standing new.standing.body back
  pub entry : new.entry ≡ old.entry

-- the instruction was executed in the epoch
pub record DidRun (text : Text) (old new : TaskView) : Type 0 where
  pub goes : Went text old new
  pub epoch : new.standing.epoch ≡ old.standing.epoch

-- the instruction was executed and began the next epoch
pub record DidForce (text : Text) (old new : TaskView) : Type 0 where
  pub goes : Went text old new
  pub epoch : new.standing.epoch ≡ old.standing.epoch + 1

-- the instruction calls the service, and the task is as before
pub record DidCall (text : Text) (old new : TaskView) (service : ℕ) : Type 0 where
  pub executed : exec text old.standing.body ≡ Calls service
  pub same : new ≡ old
  pub inside : old.standing.body.pc < 65536

-- the instruction faults, and the task is as before
pub record DidFault (text : Text) (old new : TaskView) (cause : Cause) : Type 0 where
  pub executed : exec text old.standing.body ≡ Faults cause
  pub same : new ≡ old

-- the step is what its answer says
abbrev pub Did : Text → TaskView → Stepped → TaskView → Type 0
Did text old Ran new = DidRun text old new
Did text old Forced new = DidForce text old new
Did text old (Call service) new = DidCall text old new service
Did text old (Fault cause) new = DidFault text old new cause

-- an instruction that was executed raises the marker
abbrev pub Raises : Stepped → Standing → Standing → Type 0
Raises Ran old new = IsBefore (marker_of old) (marker_of new)
Raises Forced old new = IsBefore (marker_of old) (marker_of new)
Raises (Call service) old new = Unit {0}
Raises (Fault cause) old new = Unit {0}
