-- One more step of a task that runs on.
use Rattle.std.proofs.Common.{◌≡◌, refl, sym, subst, ℕ, ◌+◌, List, add-one}
use Rattle.tm_rv.specs.Code.{Text}
use Rattle.tm_task.specs.Standing.{TaskView}
use Rattle.tm_task.specs.Stepped.{DidRun}
use Rattle.tm_task.specs.RunsOn.{RunsOn}

-- no step
pub runs_none : (text : Text) (t : TaskView) → RunsOn text 0 t t
unfolding RunsOn
runs_none text t = refl

-- one more
pub runs_more : (text : Text) (n : ℕ) (old between new : TaskView) → RunsOn text n old between → DidRun text between new →
    RunsOn text (n + 1) old new
unfolding RunsOn
runs_more text n old between new before last = rw add-one (between, (before, last))

-- as many, and a task that stays
pub runs_and_stays : (text : Text) (n : ℕ) (old between new : TaskView) → RunsOn text n old between → new ≡ between → RunsOn text n old new
runs_and_stays text n old between new ran same = subst (RunsOn text n old) (sym same) ran

-- the same number
pub runs_as_many : (text : Text) (n m : ℕ) (old new : TaskView) → n ≡ m → RunsOn text n old new → RunsOn text m old new
runs_as_many text n m old new same ran = subst (λ (k : ℕ). RunsOn text k old new) same ran

-- the same tasks
pub runs_between : (text : Text) (n : ℕ) (old old' new new' : TaskView) → old ≡ old' → new ≡ new' → RunsOn text n old new → RunsOn text n old' new'
runs_between text n old old' new new' before after ran = subst (RunsOn text n old') after (subst (λ (t : TaskView). RunsOn text n t new) before ran)
