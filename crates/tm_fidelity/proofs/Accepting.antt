-- Nothing is lost of a point exactly where the run can be replayed from it.
use Rattle.std.proofs.Common.{◌≡◌, ℕ, zero, suc, ◌+◌, ◌<◌, ◌≤◌, length, refl, ap, sym, ◌∙◌, subst, arith, inl, inr, Option, Some, None, slice_get}
use Rattle.std.specs.Prelude.{IsSomeAnd}
use Rattle.std.proofs.lemmas.Bool.{cases_lt}
use Rattle.tm_marker.specs.declared.marker.Marker.{Marker}
use Rattle.tm_marker.specs.declared.entries.DataEntry.{DataEntry}
use Rattle.tm_ring.specs.Kept.{Kept, first_of}
use Rattle.tm_check.specs.Checkpoint.{Checkpoint, KeptChecks, check_of}
use Rattle.tm_log.specs.Window.{log_of, checks_of}
use Rattle.tm_image.specs.Image.{ImageView, IsImage, words_of}
use Rattle.tm_system.specs.History.{History}
use Rattle.tm_system.specs.Run.{run}
use Rattle.tm_system.specs.Marks.{epochs}
use Rattle.tm_system.specs.Controls.{controls, entries, checkpoints}
use Rattle.tm_system.specs.Telling.{upto}
use Rattle.tm_system.specs.Accepted.{IsPointKept, CanGoOnFrom, IsAccepted}
use Rattle.tm_system.specs.Follows.{IsRun}
use Rattle.tm_system.proofs.Following.{scripts_are_runs}
use Rattle.tm_system.specs.WindowOf.{last_items, last_checks, window_of}
use Rattle.tm_log.specs.Points.{marker_at_point}
use Rattle.tm_points.specs.Laws.{CanGoOn, IsReplayable}
use Rattle.tm_points.proofs.Replayable.{needed, enough}
use Rattle.tm_fidelity.specs.Finding.{FinderIsRight, ScriptsAreFound}
use Rattle.tm_fidelity.proofs.Reading.{first_is, check_kept, check_dropped, log_is, checks_is, tasks_are, markers_are_of_points}

-- the point's own entry, by the number of the first that is kept
pub point_needed : (image : ImageView) (h : History) (point : ℕ) →
    (0 < first_of (window_of image h).control → first_of (window_of image h).control < point) → IsPointKept image h point
point_needed image h zero entries =
    let first = first_is image.caps.control (controls image h) in
    elim (cases_lt 0 (first_of (window_of image h).control)) [
      | inl dropped ↦ absurd (omega (arith, entries dropped))
      | inr none ↦ omega (arith, first, none)
    ]
point_needed image h (suc number) entries =
    let first = first_is image.caps.control (controls image h) in
    elim (cases_lt 0 (first_of (window_of image h).control)) [
      | inl dropped ↦ omega (arith, first, entries dropped)
      | inr none ↦ omega (arith, first, none)
    ]

point_enough : (image : ImageView) (h : History) (point : ℕ) → IsPointKept image h point →
    0 < first_of (window_of image h).control → first_of (window_of image h).control < point
point_enough image h zero kept dropped = absurd (omega (arith, first_is image.caps.control (controls image h), kept, dropped))
point_enough image h (suc number) kept dropped = omega (arith, first_is image.caps.control (controls image h), kept, dropped)

-- what a task needs is kept of the window exactly where it is among the last items of the run's lists
abbrev HasAll : Option Checkpoint → Kept DataEntry → Type 0
HasAll check log = IsSomeAnd check (λ c. first_of log ≤ c.data_number)

go_on_needed : (image : ImageView) (h : History) (t epoch : ℕ) (o : Option Checkpoint) → slice_get (checkpoints image t h) epoch ≡ o →
    length (checkpoints image t h) ≤ epoch + image.caps.checks → HasAll o (last_items image.caps.logs (entries t h)) → CanGoOnFrom image h t epoch
go_on_needed image h t epoch None taken kept all = absurd all
go_on_needed image h t epoch (Some c) taken kept all = record {
  check = c;
  taken = taken;
  kept = kept;
  entries = λ number since made. omega (arith, first_is image.caps.logs (entries t h), all, since);
}

go_on_enough : (image : ImageView) (h : History) (t epoch : ℕ) → (c : CanGoOnFrom image h t epoch) →
    first_of (last_items image.caps.logs (entries t h)) ≤ c.check.data_number
go_on_enough image h t epoch c =
    let first = first_is image.caps.logs (entries t h) in
    elim (cases_lt c.check.data_number (length (entries t h))) [
      | inl made ↦ omega (arith, first, c.entries c.check.data_number (omega arith) made)
      | inr none ↦ omega (arith, first, none)
    ]

-- what is read of a task in the window
pub read_check : (image : ImageView) (h : History) (point t : ℕ) → IsImage image → IsRun image h → point ≤ length (controls image h) →
    IsPointKept image h point → t < length image.loads →
    check_of (checks_of (window_of image h) t) (marker_at_point (window_of image h) point t).epoch ≡
    check_of (last_checks image.caps.checks (length (words_of image t)) (checkpoints image t h)) (epochs t (upto image point h))
read_check image h point t i r reached kept below =
    ap (λ (k : KeptChecks). check_of k (marker_at_point (window_of image h) point t).epoch) (checks_is image h t below)
    ∙ ap (λ (at : Marker). check_of (last_checks image.caps.checks (length (words_of image t)) (checkpoints image t h)) at.epoch)
    (markers_are_of_points image h point t i r reached kept below)

task_needed : (image : ImageView) (h : History) (point t : ℕ) → IsImage image → IsRun image h → point ≤ length (controls image h) →
    IsPointKept image h point → t < length image.loads → CanGoOn (window_of image h) point t →
    CanGoOnFrom image h t (epochs t (upto image point h))
task_needed image h point t i r reached kept below all =
    let epoch : ℕ = epochs t (upto image point h) in
    let ks = checkpoints image t h in
    let there : HasAll (check_of (last_checks image.caps.checks (length (words_of image t)) ks) epoch) (last_items image.caps.logs (entries t h)) =
    subst (λ o. HasAll o (last_items image.caps.logs (entries t h))) (read_check image h point t i r reached kept below)
    (subst (λ l. HasAll (check_of (checks_of (window_of image h) t) (marker_at_point (window_of image h) point t).epoch) l) (log_is image h t below) all) in
    elim (cases_lt (epoch + image.caps.checks) (length ks)) [
      | inl dropped ↦
          absurd (subst (λ o. HasAll o (last_items image.caps.logs (entries t h))) (check_dropped image.caps.checks (length (words_of image t)) ks epoch dropped) there)
      | inr last ↦
          go_on_needed image h t epoch (slice_get ks epoch) refl last
          (subst (λ o. HasAll o (last_items image.caps.logs (entries t h))) (check_kept image.caps.checks (length (words_of image t)) ks epoch last) there)
    ]

task_enough : (image : ImageView) (h : History) (point t : ℕ) → IsImage image → IsRun image h → point ≤ length (controls image h) →
    IsPointKept image h point → t < length image.loads → CanGoOnFrom image h t (epochs t (upto image point h)) →
    CanGoOn (window_of image h) point t
task_enough image h point t i r reached kept below c =
    let is : check_of (checks_of (window_of image h) t) (marker_at_point (window_of image h) point t).epoch ≡ Some c.check =
    read_check image h point t i r reached kept below
    ∙ check_kept image.caps.checks (length (words_of image t)) (checkpoints image t h) (epochs t (upto image point h)) c.kept ∙ c.taken in
    subst (λ o. HasAll o (log_of (window_of image h) t)) (sym is)
    (subst (λ (l : Kept DataEntry). first_of l ≤ c.check.data_number) (sym (log_is image h t below)) (go_on_enough image h t (epochs t (upto image point h)) c))

replayable_needed : (image : ImageView) (h : History) (point : ℕ) → IsImage image → IsRun image h → IsReplayable (window_of image h) point →
    IsAccepted image h point
replayable_needed image h point i r all =
    let kept : IsPointKept image h point = point_needed image h point all.entries in
    record {
      reached = all.reached;
      entry = kept;
      tasks = λ t below. task_needed image h point t i r all.reached kept below (all.tasks t (omega (arith, tasks_are image h, below)));
    }

replayable_enough : (image : ImageView) (h : History) (point : ℕ) → IsImage image → IsRun image h → IsAccepted image h point →
    IsReplayable (window_of image h) point
replayable_enough image h point i r a =
    record {
      reached = a.reached;
      entries = point_enough image h point a.entry;
      tasks = λ t below. (let there : t < length image.loads = omega (arith, tasks_are image h, below) in
          task_enough image h point t i r a.reached a.entry there (a.tasks t there));
    }

pub finder_is_right : FinderIsRight
finder_is_right image h point i r = (
  (λ none. replayable_needed image h point i r (needed (window_of image h) point none)),
  (λ a. enough (window_of image h) point (replayable_enough image h point i r a)),
)

pub scripts_are_found : ScriptsAreFound
scripts_are_found image script point i = finder_is_right image (run image script) point i (scripts_are_runs image script i)
