-- The lists of a run, one moment on.
use Rattle.std.proofs.Common.{◌≡◌, ℕ, Bool, true, false, ◌==◌, if◌then◌else◌, List, [], ◌∷◌, ◌++◌, Option, Some, None, refl, sym, ap, subst, inl, inr, append-nil}
use Rattle.std.specs.Prelude.{option_to_list}
use Rattle.std.proofs.lemmas.Bool.{cases_eq, eq-eqb, ne_eqb}
use Rattle.tm_marker.specs.declared.entries.DataEntry.{DataEntry}
use Rattle.tm_marker.specs.declared.entries.OutputEntry.{OutputEntry}
use Rattle.tm_task.specs.Exec.{Exec, Faults, Calls, Goes}
use Rattle.tm_image.specs.Image.{ImageView, entry_of}
use Rattle.tm_system.specs.History.{Deed, Arrives, Steps, Answers, Faulted, Moment, History}
use Rattle.tm_system.specs.Run.{running_at, body_at, next_moment, moment_by, arrival, now}
use Rattle.tm_system.specs.Marks.{is_start, backs}
use Rattle.tm_system.specs.Controls.{controls, entries, entries_of, outputs, is_switch, switch_at, Checkpoint, checkpoints}
use Rattle.tm_system.specs.Machine.{told_of, checkpoint_told, entry_told}
use Rattle.tm_system.specs.Gaining.{Gains, TurnsGain, ArrivalsGain, checkpoint_at, told_for, gained_check}

-- a list that may gain an item
gained_if : {A : Type 0} (b : Bool) (xs : List A) (x : A) →
    (if b then xs ++ x ∷ [] else xs) ≡ xs ++ option_to_list (if b then Some x else None)
gained_if true xs x = refl
gained_if false xs x = sym (append-nil xs)

controls_gain : (image : ImageView) (m : Moment) (h : History) →
    controls image (m ∷ h) ≡ controls image h ++ option_to_list (told_of image m h).switch
unfolding controls
controls_gain image m h = gained_if (is_switch image m h) (controls image h) (switch_at image m h)

outputs_gain : (image : ImageView) (m : Moment) (h : History) →
    outputs (m ∷ h) ≡ outputs h ++ option_to_list (told_of image m h).output
unfolding outputs
outputs_gain image m h = refl

-- the task of a deed, where it has one
abbrev is_of : ℕ → Deed → Type 0
is_of task (Arrives mask ports) = Unit {0}
is_of task (Steps other back) = other ≡ task
is_of task (Answers other entry output) = other ≡ task
is_of task (Faulted other cause) = other ≡ task

told_none : (b : Bool) (told : Option DataEntry) → told ≡ None → [] ≡ (if b then option_to_list told else [])
told_none true told e = rw e refl
told_none false told e = refl

entries_by : (deed : Deed) (teller task : ℕ) → is_of teller deed → entries_of task deed ≡ told_for teller task (entry_told deed)
entries_by (Arrives mask ports) teller task e = told_none (teller == task) None refl
entries_by (Steps other back) teller task e = told_none (teller == task) None refl
entries_by (Answers other entry output) teller task e = ap (λ (t : ℕ). if t == task then entry ∷ [] else []) e
entries_by (Faulted other cause) teller task e = told_none (teller == task) None refl

entries_gain : (image : ImageView) (m : Moment) (h : History) (teller task : ℕ) → is_of teller m.deed →
    entries task (m ∷ h) ≡ entries task h ++ told_for teller task (told_of image m h).entry
unfolding entries
entries_gain image m h teller task e = ap (λ es. entries task h ++ es) (entries_by m.deed teller task e)

-- a checkpoint is told for one task: the one whose epoch starts
check_other : (b : Bool) (other task : ℕ) (check : Checkpoint) → (other == task) ≡ false →
    gained_check task (if b then Some other else None) check ≡ []
check_other true other task check e = rw e refl
check_other false other task check e = refl

check_same : (b : Bool) (task : ℕ) (xs : List Checkpoint) (check : Checkpoint) →
    (if b then xs ++ check ∷ [] else xs) ≡ xs ++ gained_check task (if b then Some task else None) check
check_same true task xs check = rw (eq-eqb task task refl) refl
check_same false task xs check = sym (append-nil xs)

-- the checkpoints with one more, where the deed of `other` starts an epoch of the task
abbrev with_check : ℕ → Deed → ℕ → List Checkpoint → Checkpoint → List Checkpoint
with_check task deed count xs check = if is_start task deed count then xs ++ check ∷ [] else xs

steps_check : (other task : ℕ) (back : Bool) (h : History) (xs : List Checkpoint) (check : Checkpoint) →
    with_check task (Steps other back) (backs task h) xs check ≡ xs ++ gained_check task (checkpoint_told (Steps other back) h) check
steps_check other task back h xs check = elim (cases_eq other task) [
  | inl e ↦ subst (λ (t : ℕ). with_check t (Steps other back) (backs t h) xs check ≡ xs ++ gained_check t (checkpoint_told (Steps other back) h) check) e
      (check_same (is_start other (Steps other back) (backs other h)) other xs check)
  | inr ne ↦
      let apart : (other == task) ≡ false = ne_eqb other task ne in
      let none : gained_check task (checkpoint_told (Steps other back) h) check ≡ [] =
      check_other (is_start other (Steps other back) (backs other h)) other task check apart in
      rw (apart, none) (sym (append-nil xs))
]

answers_check : (other task : ℕ) (entry : DataEntry) (output : Option OutputEntry) (h : History) (xs : List Checkpoint) (check : Checkpoint) →
    with_check task (Answers other entry output) (backs task h) xs check ≡
    xs ++ gained_check task (checkpoint_told (Answers other entry output) h) check
answers_check other task entry output h xs check = elim (cases_eq other task) [
  | inl e ↦ subst (λ (t : ℕ). with_check t (Answers other entry output) (backs t h) xs check ≡
      xs ++ gained_check t (checkpoint_told (Answers other entry output) h) check) e
      (check_same (is_start other (Answers other entry output) (backs other h)) other xs check)
  | inr ne ↦
      let apart : (other == task) ≡ false = ne_eqb other task ne in
      let none : gained_check task (checkpoint_told (Answers other entry output) h) check ≡ [] =
      check_other (is_start other (Answers other entry output) (backs other h)) other task check apart in
      rw (apart, none) (sym (append-nil xs))
]

check_by : (deed : Deed) (task : ℕ) (h : History) (xs : List Checkpoint) (check : Checkpoint) →
    with_check task deed (backs task h) xs check ≡ xs ++ gained_check task (checkpoint_told deed h) check
check_by (Arrives mask ports) task h xs check = sym (append-nil xs)
check_by (Steps other back) task h xs check = steps_check other task back h xs check
check_by (Answers other entry output) task h xs check = answers_check other task entry output h xs check
check_by (Faulted other cause) task h xs check = sym (append-nil xs)

checkpoints_gain : (image : ImageView) (m : Moment) (h : History) (task : ℕ) →
    checkpoints image task (m ∷ h) ≡
    checkpoints image task h ++ gained_check task (told_of image m h).checkpoint (checkpoint_at image task m h)
unfolding checkpoints
checkpoints_gain image m h task = check_by m.deed task h (checkpoints image task h) (checkpoint_at image task m h)

-- a moment whose deed is this task's
pub gains : (image : ImageView) (m : Moment) (h : History) (teller : ℕ) → is_of teller m.deed → Gains image m h (told_of image m h) teller
gains image m h teller e = record {
  controls = controls_gain image m h;
  outputs = outputs_gain image m h;
  entries = λ task. entries_gain image m h teller task e;
  checkpoints = λ task. checkpoints_gain image m h task;
}

-- the deed of an instruction is its task's
deed_of : (entry task : ℕ) (image : ImageView) (h : History) (did : Exec) →
    is_of task (moment_by entry (now image h) task (body_at image h task) did).deed
deed_of entry task image h (Goes next back) = refl
deed_of entry task image h (Calls service) = refl
deed_of entry task image h (Faults cause) = refl

pub turns_gain : TurnsGain
turns_gain image h = gains image (next_moment image h) h (running_at image h)
    (deed_of (entry_of image (running_at image h)) (running_at image h) image h _)

pub arrivals_gain : ArrivalsGain
arrivals_gain image h mask ports teller = gains image (arrival (now image h) mask ports) h teller tt
