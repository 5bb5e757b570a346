-- A point that the run has reached is refused only where something that it needs was dropped.
use Rattle.std.proofs.Common.{◌≡◌, ℕ, zero, suc, ◌+◌, ◌-◌, ◌<◌, ◌≤◌, Bool, true, false, ◌&&◌, cond, nat_lt, length, [], ◌∷◌, refl, ap, sym, ◌∙◌, subst, arith, inl, inr, Option, Some, None, slice_get}
use Rattle.std.proofs.lemmas.Bool.{cases_Bool, cases_lt, ltb-true, ltb-false}
use Rattle.std.proofs.lemmas.Option.{slice_get-get_or}
use Rattle.tm_marker.specs.declared.marker.Marker.{Marker}
use Rattle.tm_ring.specs.Kept.{first_of}
use Rattle.tm_check.specs.Checkpoint.{Checkpoint, check_of}
use Rattle.tm_log.specs.Window.{log_of, checks_of}
use Rattle.tm_image.specs.Image.{ImageView, IsImage, words_of}
use Rattle.tm_system.specs.History.{History}
use Rattle.tm_system.specs.Marks.{epochs}
use Rattle.tm_system.specs.Controls.{controls, entries, checkpoints}
use Rattle.tm_system.specs.Telling.{upto}
use Rattle.tm_system.specs.Accepted.{IsPointKept}
use Rattle.tm_system.specs.Follows.{IsRun}
use Rattle.tm_system.proofs.Counts.{checkpoints_count, epochs_rise}
use Rattle.tm_system.specs.WindowOf.{last_checks, window_of}
use Rattle.tm_points.specs.declared.finder.Lost.{Lost}
use Rattle.tm_points.specs.declared.finder.Lost.TheVariants.{Unknown, Control, Check, Data}
use Rattle.tm_log.specs.Points.{marker_at_point}
use Rattle.tm_points.specs.Finder.{least_point, lost_of_check, lost_of_task, least_answer, lost_of}
use Rattle.tm_points.specs.Laws.{IsLeast}
use Rattle.tm_points.proofs.Least.{least_is}
use Rattle.tm_fidelity.specs.Finding.{IsDropped, IsPointDropped, WasDropped, RefusalsNameDropped}
use Rattle.tm_fidelity.proofs.Upto.{upto_before, upto_here, boot_upto}
use Rattle.tm_fidelity.proofs.Reading.{first_is, check_kept, check_dropped, log_is, tasks_are, markers_are_of_points}
use Rattle.tm_fidelity.proofs.Accepting.{point_needed, read_check}

-- no epoch at a point is later than the last
epochs_upto : (image : ImageView) (p t : ℕ) (h : History) → epochs t (upto image p h) ≤ epochs t h
epochs_upto image p t [] = omega (arith, ap (epochs t) (boot_upto image p))
epochs_upto image p t (m ∷ h) = elim (cases_lt (length (controls image h)) p) [
  | inl later ↦ omega (arith, ap (epochs t) (upto_here image p m h later))
  | inr before ↦ omega (arith, ap (epochs t) (upto_before image p m h before), epochs_upto image p t h, epochs_rise t m h)
]

-- the point's own entry, or, of boot, the first
point_dropped : (image : ImageView) (h : History) (point : ℕ) → point ≤ length (controls image h) →
    0 < first_of (window_of image h).control → point ≤ first_of (window_of image h).control → IsPointDropped image h point
point_dropped image h zero reached some before =
    let first = first_is image.caps.control (controls image h) in
    omega (arith, first, some)
point_dropped image h (suc number) reached some before =
    let first = first_is image.caps.control (controls image h) in
    omega (arith, first, some, before)

-- a checkpoint of an epoch that the task has reached is lost only where it was dropped
check_lost : (image : ImageView) (h : History) (t epoch words : ℕ) → epoch ≤ epochs t h →
    check_of (last_checks image.caps.checks words (checkpoints image t h)) epoch ≡ None →
    IsDropped image.caps.checks (checkpoints image t h) epoch
check_lost image h t epoch words reached none =
    let ks = checkpoints image t h in
    let there : epoch < length ks = omega (arith, checkpoints_count image t h, reached) in
    elim (cases_lt (epoch + image.caps.checks) (length ks)) [
      | inl dropped ↦ dropped
      | inr kept ↦
          let nothing : Checkpoint = record { body = record { pc = 0; regs = []; words = [] }; data_number = 0; control_number = 0 } in
          absurd (some_none (sym (slice_get-get_or ks epoch nothing there) ∙ sym (check_kept image.caps.checks words ks epoch kept) ∙ none))
    ]
  where
    some_none : {x : Checkpoint} → Some x ≡ None → ⊥
    some_none e = cc

-- a checkpoint that is kept is that of the run
pub check_found : (image : ImageView) (h : History) (t epoch words : ℕ) (c : Checkpoint) →
    check_of (last_checks image.caps.checks words (checkpoints image t h)) epoch ≡ Some c → slice_get (checkpoints image t h) epoch ≡ Some c
check_found image h t epoch words c is =
    let ks = checkpoints image t h in
    elim (cases_lt (epoch + image.caps.checks) (length ks)) [
      | inl dropped ↦ absurd (none_some (sym (check_dropped image.caps.checks words ks epoch dropped) ∙ is))
      | inr kept ↦ sym (check_kept image.caps.checks words ks epoch kept) ∙ is
    ]
  where
    none_some : None ≡ Some c → ⊥
    none_some e = cc

-- what is told of a task was dropped
told_of_task : (image : ImageView) (h : History) (point t epoch first : ℕ) (o : Option Checkpoint) (lost : Lost) → t < length image.loads →
    epoch ≡ epochs t (upto image point h) → first ≡ length (entries t h) - image.caps.logs →
    check_of (last_checks image.caps.checks (length (words_of image t)) (checkpoints image t h)) (epochs t (upto image point h)) ≡ o →
    lost_of_check t epoch first o ≡ Some lost → WasDropped image h point lost
told_of_task image h point t epoch first None lost below stood is none told =
    subst (WasDropped image h point) (same (Check t epoch) lost told) (record {
      task_is = below;
      stood = stood;
      dropped = subst (λ (e : ℕ). IsDropped image.caps.checks (checkpoints image t h) e) (sym stood)
          (check_lost image h t (epochs t (upto image point h)) (length (words_of image t)) (epochs_upto image point t h) none);
    })
  where
    same : (a b : Lost) → Some a ≡ Some b → a ≡ b
    same a b e = cc
told_of_task image h point t epoch first (Some c) lost below stood is found told = elim (cases_Bool (nat_lt c.data_number first)) [
  | inl e ↦
      let before : c.data_number < first = ltb-true c.data_number first e in
      let told' : Some (Data t c.data_number first) ≡ Some lost = rw e at told in
      subst (WasDropped image h point) (same (Data t c.data_number first) lost told') (record {
        task_is = below;
        check = c;
        taken = check_found image h t (epochs t (upto image point h)) (length (words_of image t)) c found;
        since = refl;
        dropped = omega (arith, before, is);
      })
  | inr e ↦
      let told' : None ≡ Some lost = rw e at told in
      absurd (none_some told')
]
  where
    same : (a b : Lost) → Some a ≡ Some b → a ≡ b
    same a b e = cc

    none_some : None ≡ Some lost → ⊥
    none_some e = cc

task_lost : (image : ImageView) (h : History) (point t : ℕ) (lost : Lost) → IsImage image → IsRun image h → point ≤ length (controls image h) →
    IsPointKept image h point → t < length image.loads → lost_of_task (window_of image h) point t ≡ Some lost → WasDropped image h point lost
task_lost image h point t lost i r reached kept below told =
    told_of_task image h point t (marker_at_point (window_of image h) point t).epoch (first_of (log_of (window_of image h) t))
    (check_of (checks_of (window_of image h) t) (marker_at_point (window_of image h) point t).epoch) lost below
    (ap (λ (at : Marker). at.epoch) (markers_are_of_points image h point t i r reached kept below))
    (ap first_of (log_is image h t below) ∙ first_is image.caps.logs (entries t h))
    (sym (read_check image h point t i r reached kept below)) told

-- the three refusals in turn
record Refuses (one two : Bool) (x y : Lost) (o : Option Lost) (lost : Lost) (P : Lost → Type 0) : Type 0 where
  first : one ≡ true → P x
  second : one ≡ false → two ≡ true → P y
  third : one ≡ false → two ≡ false → o ≡ Some lost → P lost

refused : (one two : Bool) (x y : Lost) (o : Option Lost) (lost : Lost) (P : Lost → Type 0) → Refuses one two x y o lost P →
    cond one (Some x) (cond two (Some y) o) ≡ Some lost → P lost
refused true two x y o lost P r told = subst P (same x lost told) (r.first refl)
  where
    same : (a b : Lost) → Some a ≡ Some b → a ≡ b
    same a b e = cc
refused false true x y o lost P r told = subst P (same y lost told) (r.second refl refl)
  where
    same : (a b : Lost) → Some a ≡ Some b → a ≡ b
    same a b e = cc
refused false false x y o lost P r told = r.third refl refl told

both_true : (a b : Bool) → (a && b) ≡ true → (a ≡ true) × (b ≡ true)
both_true true b e = (refl, e)
both_true false b e = absurd (cc)

-- the point's own entry is kept where the second refusal does not apply
kept_by : (a b : Bool) (first point : ℕ) → nat_lt 0 first ≡ a → nat_lt point (first + 1) ≡ b → (a && b) ≡ false → 0 < first → first < point
kept_by true true first point is_some is_before e some = absurd (cc)
kept_by true false first point is_some is_before e some = omega (arith, ltb-false point (first + 1) is_before)
kept_by false b first point is_some is_before e some = absurd (omega (arith, ltb-false 0 first is_some, some))

pub refusals_name_dropped : RefusalsNameDropped
unfolding lost_of
refusals_name_dropped image h point lost i r reached told =
    let w = window_of image h in
    refused (nat_lt w.control.total point) (nat_lt 0 (first_of w.control) && nat_lt point (least_point w))
    (Unknown w.control.total) (Control (least_point w)) (least_answer (lost_of_task w point) (length w.shape.words)) lost (WasDropped image h point)
    (record {
      first = λ e. absurd (omega (arith, ltb-true (length (controls image h)) point e, reached));
      second = λ _ e.
          let both = both_true _ _ e in
          let some : 0 < first_of w.control = ltb-true 0 (first_of w.control) both.0 in
          let before : point < first_of w.control + 1 = ltb-true point (first_of w.control + 1) both.1 in
          point_dropped image h point reached some (omega (arith, before));
      third = λ _ e answer.
          let least : IsLeast (lost_of_task w point) (length w.shape.words) lost = least_is (lost_of_task w point) (length w.shape.words) lost answer in
          task_lost image h point least.number lost i r reached
          (point_needed image h point (kept_by _ _ (first_of w.control) point refl refl e))
          (omega (arith, tasks_are image h, least.below)) least.answers;
    })
    told
