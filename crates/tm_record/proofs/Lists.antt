-- The lists of a window, one moment on.
use Rattle.std.proofs.Common.{◌≡◌, ◌≢◌, ℕ, ◌<◌, ◌==◌, List, [], ◌∷◌, ◌++◌, length, slice_set, Option, Some, None, ap, sym, ◌∙◌, subst, arith, inl, inr, append-nil, length-append, length-set}
use Rattle.std.specs.Prelude.{option_to_list}
use Rattle.std.proofs.lemmas.Bool.{cases_Bool, eqb-true, eqb-false}
use Rattle.std.proofs.lemmas.List.{get_or-set_same, get_or-set_other}
use Rattle.std.proofs.lemmas.Option.{unwrap_or-slice_get}
use Rattle.tm_marker.specs.declared.entries.Switch.{Switch}
use Rattle.tm_marker.specs.declared.entries.DataEntry.{DataEntry}
use Rattle.tm_marker.specs.declared.entries.OutputEntry.{OutputEntry}
use Rattle.tm_ring.specs.Kept.{Kept, kept, pushed, Holds}
use Rattle.tm_check.specs.Checkpoint.{Checkpoint, KeptChecks, pushed_check, HoldsChecks}
use Rattle.tm_check.proofs.Shifts.{keep_last-push, holds_pushed}
use Rattle.tm_log.specs.Window.{WindowView, log_of, checks_of, with_entry, with_check}
use Rattle.tm_log.proofs.Keeping.{checks_pushed, checks_others}
use Rattle.tm_system.specs.Machine.{MachineView}
use Rattle.tm_system.specs.Gaining.{told_for, gained_check}
use Rattle.tm_record.specs.Recording.{entry_noted, check_noted, output_noted, switch_noted, checkpoint_now}

-- the last of a list and an item after it are the last of the list with the item at its end
pub holds_more : {X : Type 0} (ring : Kept X) (all : List X) (x : X) → Holds ring all → Holds (pushed ring x) (all ++ x ∷ [])
holds_more ring all x h = record {
  items = ap (λ l. (pushed (kept l ring.total ring.cap) x).items) h.items ∙ keep_last-push ring.cap all x;
  total = omega (arith, length-append all (x ∷ []), h.total);
}

-- a window of so many tasks whose buffers hold the last items of these lists
pub record Keeps (w : WindowView) (n : ℕ) (cs : List Switch) (os : List OutputEntry) (es : ℕ → List DataEntry) (ks : ℕ → List Checkpoint) : Type 0 where
  pub logs_number : length w.logs ≡ n
  pub checks_number : length w.checks ≡ n
  pub control : Holds w.control cs
  pub outputs : Holds w.outputs os
  pub logs : (t : ℕ) → t < n → Holds (log_of w t) (es t)
  pub checks : (t : ℕ) → t < n → HoldsChecks (checks_of w t) (ks t)

-- the data entries of a task after one more, and those of the others
log_pushed : (w : WindowView) (task : ℕ) (e : DataEntry) → task < length w.logs →
    log_of (with_entry w task e) task ≡ pushed (log_of w task) e
log_pushed w task e below =
    unwrap_or-slice_get (slice_set w.logs task (pushed (log_of w task) e)) task (kept [] 0 0)
    ∙ get_or-set_same w.logs task (pushed (log_of w task) e) (kept [] 0 0) below

log_others : (w : WindowView) (task : ℕ) (e : DataEntry) (other : ℕ) → other ≢ task →
    log_of (with_entry w task e) other ≡ log_of w other
log_others w task e other differs =
    unwrap_or-slice_get (slice_set w.logs task (pushed (log_of w task) e)) other (kept [] 0 0)
    ∙ get_or-set_other w.logs task other (pushed (log_of w task) e) (kept [] 0 0) differs
    ∙ sym (unwrap_or-slice_get w.logs other (kept [] 0 0))

log_gains : (w : WindowView) (n task : ℕ) (e : DataEntry) (es : ℕ → List DataEntry) (t : ℕ) → length w.logs ≡ n → t < n →
    Holds (log_of w t) (es t) → Holds (log_of (with_entry w task e) t) (es t ++ told_for task t (Some e))
log_gains w n task e es t long below h =
    elim (cases_Bool (task == t)) [
      | inl is ↦
          let same : task ≡ t = eqb-true task t is in
          let there : t < length w.logs = omega (arith, long, below) in
          rw is (subst (λ (k : ℕ). Holds (log_of (with_entry w k e) t) (es t ++ e ∷ [])) (sym same)
          (subst (λ (r : Kept DataEntry). Holds r (es t ++ e ∷ [])) (sym (log_pushed w t e there)) (holds_more (log_of w t) (es t) e h)))
      | inr is ↦
          let other : t ≢ task = λ q. eqb-false task t is (sym q) in
          rw is (subst (λ (l : List DataEntry). Holds (log_of (with_entry w task e) t) l) (sym (append-nil (es t)))
          (subst (λ (r : Kept DataEntry). Holds r (es t)) (sym (log_others w task e t other)) h))
    ]

-- after the data entry of a moment
pub keeps_entry : (w : WindowView) (n task : ℕ) (told : Option DataEntry) (cs : List Switch) (os : List OutputEntry) (es : ℕ → List DataEntry)
    (ks : ℕ → List Checkpoint) → Keeps w n cs os es ks → Keeps (entry_noted task told w) n cs os (λ t. es t ++ told_for task t told) ks
keeps_entry w n task None cs os es ks k = record {
  logs_number = k.logs_number;
  checks_number = k.checks_number;
  control = k.control;
  outputs = k.outputs;
  logs = λ t below. subst (λ (l : List DataEntry). Holds (log_of w t) l) (sym (nothing_told t)) (k.logs t below);
  checks = k.checks;
}
  where
    nothing_told : (t : ℕ) → es t ++ told_for task t None ≡ es t
    nothing_told t = elim (cases_Bool (task == t)) [ inl e ↦ rw e (append-nil (es t)) | inr e ↦ rw e (append-nil (es t)) ]
keeps_entry w n task (Some e) cs os es ks k = record {
  logs_number = length-set w.logs task (pushed (log_of w task) e) ∙ k.logs_number;
  checks_number = k.checks_number;
  control = k.control;
  outputs = k.outputs;
  logs = λ t below. log_gains w n task e es t k.logs_number below (k.logs t below);
  checks = k.checks;
}

check_gains : (w : WindowView) (n task : ℕ) (check : ℕ → Checkpoint) (ks : ℕ → List Checkpoint) (t : ℕ) → length w.checks ≡ n → t < n →
    HoldsChecks (checks_of w t) (ks t) →
    HoldsChecks (checks_of (with_check w task (check task)) t) (ks t ++ gained_check t (Some task) (check t))
check_gains w n task check ks t long below h =
    elim (cases_Bool (task == t)) [
      | inl is ↦
          let same : task ≡ t = eqb-true task t is in
          let there : t < length w.checks = omega (arith, long, below) in
          rw is (subst (λ (k : ℕ). HoldsChecks (checks_of (with_check w k (check k)) t) (ks t ++ check t ∷ [])) (sym same)
          (holds_pushed (checks_of w t) (checks_of (with_check w t (check t)) t) (check t) (checks_pushed w t (check t) there) (ks t) h))
      | inr is ↦
          let other : t ≢ task = λ q. eqb-false task t is (sym q) in
          rw is (subst (λ (l : List Checkpoint). HoldsChecks (checks_of (with_check w task (check task)) t) l) (sym (append-nil (ks t)))
          (subst (λ (r : KeptChecks). HoldsChecks r (ks t)) (sym (checks_others w task (check task) t other)) h))
    ]

-- after the checkpoint of a moment
pub keeps_check : (machine : MachineView) (w : WindowView) (n : ℕ) (told : Option ℕ) (cs : List Switch) (os : List OutputEntry)
    (es : ℕ → List DataEntry) (ks : ℕ → List Checkpoint) → Keeps w n cs os es ks →
    Keeps (check_noted machine told w) n cs os es (λ t. ks t ++ gained_check t told (checkpoint_now machine w t))
keeps_check machine w n None cs os es ks k = record {
  logs_number = k.logs_number;
  checks_number = k.checks_number;
  control = k.control;
  outputs = k.outputs;
  logs = k.logs;
  checks = λ t below. subst (λ (l : List Checkpoint). HoldsChecks (checks_of w t) l) (sym (append-nil (ks t))) (k.checks t below);
}
keeps_check machine w n (Some task) cs os es ks k = record {
  logs_number = k.logs_number;
  checks_number = length-set w.checks task (pushed_check (checks_of w task) (checkpoint_now machine w task)) ∙ k.checks_number;
  control = k.control;
  outputs = k.outputs;
  logs = k.logs;
  checks = λ t below. check_gains w n task (checkpoint_now machine w) ks t k.checks_number below (k.checks t below);
}

-- after the output of a moment
pub keeps_output : (w : WindowView) (n : ℕ) (told : Option OutputEntry) (cs : List Switch) (os : List OutputEntry) (es : ℕ → List DataEntry)
    (ks : ℕ → List Checkpoint) → Keeps w n cs os es ks → Keeps (output_noted told w) n cs (os ++ option_to_list told) es ks
keeps_output w n None cs os es ks k =
    subst (λ (l : List OutputEntry). Keeps w n cs l es ks) (sym (append-nil os)) k
keeps_output w n (Some x) cs os es ks k = record {
  logs_number = k.logs_number;
  checks_number = k.checks_number;
  control = k.control;
  outputs = holds_more w.outputs os x k.outputs;
  logs = k.logs;
  checks = k.checks;
}

-- after the control entry of a moment
pub keeps_switch : (w : WindowView) (n : ℕ) (told : Option Switch) (cs : List Switch) (os : List OutputEntry) (es : ℕ → List DataEntry)
    (ks : ℕ → List Checkpoint) → Keeps w n cs os es ks → Keeps (switch_noted told w) n (cs ++ option_to_list told) os es ks
keeps_switch w n None cs os es ks k =
    subst (λ (l : List Switch). Keeps w n l os es ks) (sym (append-nil cs)) k
keeps_switch w n (Some x) cs os es ks k = record {
  logs_number = k.logs_number;
  checks_number = k.checks_number;
  control = holds_more w.control cs x k.control;
  outputs = k.outputs;
  logs = k.logs;
  checks = k.checks;
}
