-- The outputs, the data entries and the checkpoints of a run, each by itself.
use Rattle.std.proofs.Common.{ℕ, ◌<◌, ◌≤◌, Bool, true, false, ◌==◌, if◌then◌else◌, List, [], ◌∷◌, ◌++◌, length, All, arith, Option, Some, None, length-append}
use Rattle.std.specs.Prelude.{IfSome, option_to_list}
use Rattle.std.proofs.lemmas.List.Elements.{All-nil, All-cons, All-push, All-append, All-weaker}
use Rattle.tm_marker.specs.declared.entries.DataEntry.{DataEntry}
use Rattle.tm_marker.specs.declared.entries.OutputEntry.{OutputEntry}
use Rattle.tm_image.specs.Image.{ImageView, IsImage}
use Rattle.tm_check.specs.Checkpoint.{Checkpoint}
use Rattle.tm_log.specs.WellFormed.{IsOutput, IsCheckpoint}
use Rattle.tm_system.specs.History.{Deed, Arrives, Steps, Answers, Faulted, Moment, History}
use Rattle.tm_system.specs.Marks.{is_start, backs}
use Rattle.tm_system.specs.Controls.{controls, is_switch, switch_at, entries, entries_of, outputs, output_of, checkpoints}
use Rattle.tm_system.specs.Gaining.{checkpoint_at}
use Rattle.tm_system.proofs.Bodies.{boot_bodies}
use Rattle.tm_record.proofs.Histories.{TellsSoundly, IsInvariant}

-- the outputs of a run
one_output : (n : ℕ) (o : Option OutputEntry) → IfSome o (λ x. (x.task < n) × (x.port < 4)) → All (IsOutput n) (option_to_list o)
one_output n None made = All-nil (IsOutput n)
one_output n (Some x) made = All-cons (IsOutput n) x [] (record { task = made.0; port = made.1 }) (All-nil (IsOutput n))

deed_outputs : (n : ℕ) (d : Deed) → TellsSoundly n d → All (IsOutput n) (option_to_list (output_of d))
deed_outputs n (Arrives mask ports) tells = All-nil (IsOutput n)
deed_outputs n (Steps task back) tells = All-nil (IsOutput n)
deed_outputs n (Answers task entry output) tells = one_output n output tells.makes
deed_outputs n (Faulted task cause) tells = All-nil (IsOutput n)

abbrev pub AreOutputs : ImageView → History → Type 0
AreOutputs image h = All (IsOutput (length image.loads)) (outputs h)

pub outputs_kept : (image : ImageView) → IsInvariant image (AreOutputs image)
unfolding outputs
outputs_kept image = record {
  boots = All-nil (IsOutput (length image.loads));
  goes_on = λ h m n each. All-append (IsOutput (length image.loads)) (outputs h) (option_to_list (output_of m.deed)) each
      (deed_outputs (length image.loads) m.deed n.tells);
}

-- the data entries of a task
abbrev pub HasStatus : DataEntry → Type 0
HasStatus entry = entry.status ≤ 8

entry_if : (b : Bool) (entry : DataEntry) → HasStatus entry → All HasStatus (if b then entry ∷ [] else [])
entry_if true entry small = All-cons HasStatus entry [] small (All-nil HasStatus)
entry_if false entry small = All-nil HasStatus

deed_entries : (n task : ℕ) (d : Deed) → TellsSoundly n d → All HasStatus (entries_of task d)
deed_entries n task (Arrives mask ports) tells = All-nil HasStatus
deed_entries n task (Steps other back) tells = All-nil HasStatus
deed_entries n task (Answers other entry output) tells = entry_if (other == task) entry tells.answers
deed_entries n task (Faulted other cause) tells = All-nil HasStatus

abbrev pub HaveStatuses : ℕ → History → Type 0
HaveStatuses task h = All HasStatus (entries task h)

pub statuses_kept : (image : ImageView) (task : ℕ) → IsInvariant image (HaveStatuses task)
unfolding entries
statuses_kept image task = record {
  boots = All-nil HasStatus;
  goes_on = λ h m n each. All-append HasStatus (entries task h) (entries_of task m.deed) each
      (deed_entries (length image.loads) task m.deed n.tells);
}

-- no list gets shorter
entries_rise : (task : ℕ) (m : Moment) (h : History) → length (entries task h) ≤ length (entries task (m ∷ h))
unfolding entries
entries_rise task m h = omega (arith, length-append (entries task h) (entries_of task m.deed))

longer_if : {X : Type 0} (b : Bool) (xs : List X) (x : X) → length xs ≤ length (if b then xs ++ x ∷ [] else xs)
longer_if true xs x = omega (arith, length-append xs (x ∷ []))
longer_if false xs x = omega arith

controls_rise : (image : ImageView) (m : Moment) (h : History) → length (controls image h) ≤ length (controls image (m ∷ h))
unfolding controls
controls_rise image m h = longer_if (is_switch image m h) (controls image h) (switch_at image m h)

-- the checkpoints of a task
abbrev IsCheckAt : ImageView → ℕ → History → Checkpoint → Type 0
IsCheckAt image task h c = IsCheckpoint (length (entries task h)) (length (controls image h)) c

check_more : (image : ImageView) (task : ℕ) (m : Moment) (h : History) (c : Checkpoint) → IsCheckAt image task h c → IsCheckAt image task (m ∷ h) c
check_more image task m h c is = record {
  aligned = is.aligned;
  data_number = omega (arith, is.data_number, entries_rise task m h);
  control_number = omega (arith, is.control_number, controls_rise image m h);
}

check_if : (P : Checkpoint → Type 0) (b : Bool) (xs : List Checkpoint) (x : Checkpoint) → All P xs → P x → All P (if b then xs ++ x ∷ [] else xs)
check_if P true xs x each this = All-push P xs x each this
check_if P false xs x each this = each

abbrev pub AreChecks : ImageView → ℕ → History → Type 0
AreChecks image task h = All (IsCheckAt image task h) (checkpoints image task h)

pub checks_kept : (image : ImageView) (task : ℕ) → IsImage image → task < length image.loads → IsInvariant image (AreChecks image task)
unfolding checkpoints
checks_kept image task i below = record {
  boots = All-cons (IsCheckAt image task []) _ [] (record {
    aligned = ((boot_bodies image i).each task below).aligned;
    data_number = omega arith;
    control_number = omega arith;
  }) (All-nil (IsCheckAt image task []));
  goes_on = λ h m n each. check_if (IsCheckAt image task (m ∷ h)) (is_start task m.deed (backs task h)) (checkpoints image task h) (checkpoint_at image task m h)
      (All-weaker (IsCheckAt image task h) (IsCheckAt image task (m ∷ h)) (check_more image task m h) (checkpoints image task h) each)
      (record {
        aligned = (n.after.bodies.each task below).aligned;
        data_number = omega arith;
        control_number = controls_rise image m h;
      });
}
