-- Why the running task leaves the processor: what its control entry says is what its instruction did.
use Rattle.std.proofs.Common.{◌≡◌, ◌≢◌, ℕ, ◌⊎◌, true, false, ◌∷◌, refl, ap, sym, ◌∙◌, subst, inl, inr, Option, Some, None, slice_get, unwrap_or}
use Rattle.std.proofs.lemmas.Bool.{ne_eqb}
use Rattle.tm_marker.specs.declared.entries.Kind.{Kind}
use Rattle.tm_marker.specs.declared.entries.Kind.TheVariants.{Preempted, Waits, Ends, Fault, Shutdown, Idle}
use Rattle.tm_kernel.specs.State.{nobody}
use Rattle.tm_task.specs.declared.outcome.Cause.{Cause}
use Rattle.tm_task.specs.Cause.{cause_number}
use Rattle.tm_task.specs.Exec.{Faults, exec}
use Rattle.tm_image.specs.Image.{ImageView, text_of}
use Rattle.tm_system.specs.History.{Deed, Arrives, Steps, Answers, Faulted, Moment, History}
use Rattle.tm_system.specs.Run.{running_at, body_at, no_body}
use Rattle.tm_system.specs.Controls.{kind_by, switch_at}
use Rattle.tm_system.specs.Telling.{cause_of}
use Rattle.tm_system.specs.Follows.{CanRunNext, DidDeed}
use Rattle.tm_system.specs.Wanted.{is_fault}

-- the entry is of no fault, and there is none
pub record IsNoFault (image : ImageView) (m : Moment) (h : History) (d : Deed) : Type 0 where
  pub kind : is_fault (switch_at image m h).kind ≡ false
  pub cause : cause_of d ≡ 0

-- the entry is of a fault, and the task's instruction faults, by this cause
pub record IsFaultBy (image : ImageView) (t : ℕ) (m : Moment) (h : History) (d : Deed) : Type 0 where
  pub cause : Cause
  pub kind : is_fault (switch_at image m h).kind ≡ true
  pub faults : exec (text_of image t) (body_at image (m ∷ h) t) ≡ Faults cause
  pub number : cause_of d ≡ cause_number cause

abbrev pub LeavesAs : ImageView → ℕ → Moment → History → Deed → Type 0
LeavesAs image t m h d = IsNoFault image m h d ⊎ IsFaultBy image t m h d

kind_of_some : (from : ℕ) (leaves : Option Kind) → from ≢ nobody → kind_by from leaves ≡ unwrap_or leaves Preempted
kind_of_some from leaves some = rw (ne_eqb from nobody some) refl

-- the kind of an entry by why the task left
kind_is : (image : ImageView) (m : Moment) (h : History) (leaves : Option Kind) → running_at image h ≢ nobody → m.leaves ≡ leaves →
    is_fault (switch_at image m h).kind ≡ is_fault (unwrap_or leaves Preempted)
kind_is image m h leaves some is =
    ap is_fault (kind_of_some (running_at image h) m.leaves some ∙ ap (λ l. unwrap_or l Preempted) is)

call_no_fault : (leaves : Option Kind) (caller next : ℕ) → CanRunNext leaves caller next → is_fault (unwrap_or leaves Preempted) ≡ false
call_no_fault None caller next can = refl
call_no_fault (Some Waits) caller next can = refl
call_no_fault (Some Ends) caller next can = refl
call_no_fault (Some Shutdown) caller next can = refl
call_no_fault (Some Preempted) caller next can = refl
call_no_fault (Some Fault) caller next can = absurd can
call_no_fault (Some Idle) caller next can = refl

pub leaves_as : (image : ImageView) (t : ℕ) (m : Moment) (h : History) → running_at image h ≡ t → t ≢ nobody → (d : Deed) → DidDeed image h m d →
    LeavesAs image t m h d
leaves_as image t m h runs some (Arrives mask ports) did =
    inl (record { kind = kind_is image m h None (λ e. some (sym runs ∙ e)) did.leaves; cause = refl })
leaves_as image t m h runs some (Steps task back) did =
    inl (record { kind = kind_is image m h None (λ e. some (sym runs ∙ e)) did.leaves; cause = refl })
leaves_as image t m h runs some (Answers task entry output) did =
    inl (record {
      kind = kind_is image m h m.leaves (λ e. some (sym runs ∙ e)) refl ∙ call_no_fault m.leaves task m.after.kernel.running did.next;
      cause = refl;
    })
leaves_as image t m h runs some (Faulted task cause) did =
    let mine : task ≡ t = sym did.turn.runs ∙ runs in
    let same : body_at image (m ∷ h) t ≡ body_at image h t = ap (λ bs. unwrap_or (slice_get bs t) no_body) did.bodies in
    inr (record {
      cause = cause;
      kind = kind_is image m h (Some Fault) (λ e. some (sym runs ∙ e)) did.leaves;
      faults = ap (exec (text_of image t)) same ∙ subst (λ (k : ℕ). exec (text_of image k) (body_at image h k) ≡ Faults cause) mine did.faults;
      number = refl;
    })
