-- A task that goes on by several instructions in its epoch.
use Rattle.std.specs.Prelude.{◌≡◌, ◌⊎◌, ℕ, zero, suc, true, List}
use Rattle.tm_rv.specs.Code.{Text}
use Rattle.tm_task.specs.Exec.{Exec, Faults, Calls, Goes, exec}
use Rattle.tm_task.specs.Standing.{TaskView, is_full}
use Rattle.tm_task.specs.Stepped.{Did}
use Rattle.tm_task.specs.declared.outcome.Stepped.TheVariants.{Ran}

-- so many steps, one after another, of which each ran: none called, faulted or began an epoch
unfoldable pub RunsOn : Text → ℕ → TaskView → TaskView → Type 0
RunsOn text zero old new = new ≡ old
RunsOn text (suc n) old new = (between : TaskView) × (RunsOn text n old between × Did text between Ran new)

-- the instruction calls or faults
abbrev pub IsStop : Exec → Type 0
IsStop (Faults cause) = Unit {0}
IsStop (Calls service) = Unit {0}
IsStop (Goes next back) = ⊥

-- the task has come to an instruction that calls or faults, or to the last backward transfer of its epoch
abbrev pub HasStopped : Text → TaskView → Type 0
HasStopped text t = (is_full t.standing ≡ true) ⊎ IsStop (exec text t.standing.body)

-- the task has stopped, and is as before
pub record Stays (text : Text) (old new : TaskView) : Type 0 where
  pub same : new ≡ old
  pub stopped : HasStopped text old
