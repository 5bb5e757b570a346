-- The marks of a task in a run: counts stay below the length of an epoch, and each marker was the task's.
use Rattle.std.proofs.Common.{◌≡◌, ◌≢◌, ℕ, ◌+◌, ◌<◌, ◌≤◌, Bool, true, false, ◌||◌, ◌&&◌, ◌==◌, if◌then◌else◌, [], ◌∷◌, length, refl, sym, subst, arith, inl, inr}
use Rattle.std.proofs.lemmas.Bool.{cases_eq, eq-eqb, ne_eqb, eqb-false}
use Rattle.tm_marker.specs.declared.marker.Marker.{Marker}
use Rattle.tm_marker.specs.declared.marker.TheConstants.{EPOCH_LENGTH}
use Rattle.tm_kernel.specs.State.{nobody}
use Rattle.tm_image.specs.Image.{ImageView, IsImage}
use Rattle.tm_log.specs.Window.{zero_marker}
use Rattle.tm_log.specs.WellFormed.{IsMarker, IsTaskOrNobody}
use Rattle.tm_system.specs.History.{Moment, History}
use Rattle.tm_system.specs.Run.{running_at}
use Rattle.tm_task.specs.Standing.{marker_of}
use Rattle.tm_system.specs.Marks.{is_back, begins, backs, epochs, marker_at, standing_at}
use Rattle.tm_system.proofs.Counts.{epochs_rise}
use Rattle.tm_system.proofs.Following.{running_in}
use Rattle.tm_record.proofs.Histories.{IsGood}

count_below : (starts back full : Bool) (n : ℕ) → (n + 1 == EPOCH_LENGTH) ≡ full → n < EPOCH_LENGTH →
    (if starts || (back && full) then 0 else if back then n + 1 else n) < EPOCH_LENGTH
count_below true back full n e below = omega arith
count_below false true true n e below = omega arith
count_below false true false n e below = let not_full = eqb-false (n + 1) EPOCH_LENGTH e in omega (arith, below, not_full)
count_below false false full n e below = below

-- a count stays below the length of an epoch
pub backs_below : (t : ℕ) (h : History) → backs t h < EPOCH_LENGTH
unfolding backs
backs_below t [] = omega arith
backs_below t (m ∷ h) = count_below (begins t m.deed) (is_back t m.deed) (backs t h + 1 == EPOCH_LENGTH) (backs t h) refl (backs_below t h)

-- an image has at most 16 tasks, so that none of them is nobody
pub tasks_few : (image : ImageView) → IsImage image → length image.loads ≤ 16
tasks_few image i = omega (arith, i.loads, i.spec.few_tasks)

-- who runs is a task of the image, or nobody
pub runs_there : (image : ImageView) (h : History) → IsImage image → IsGood image h → IsTaskOrNobody (length image.loads) (running_at image h)
runs_there image h i g =
    elim (cases_eq (running_at image h) nobody) [
      | inl e ↦ inl e
      | inr ne ↦ inr (running_in image h i g.good.sound ne)
    ]

-- a task, or nobody, at a marker that it had in the run
pub record IsSideAt (image : ImageView) (h : History) (task : ℕ) (at : Marker) : Type 0 where
  pub there : IsTaskOrNobody (length image.loads) task
  pub marker : IsMarker at
  pub zero : task ≡ nobody → at ≡ zero_marker
  pub reached : task < length image.loads → at.epoch ≤ epochs task h

-- the marker of a task of the image
pub task_marker : (image : ImageView) (h : History) (task : ℕ) → IsGood image h → task < length image.loads → IsMarker (marker_of (standing_at image h task))
task_marker image h task g below = record { count = backs_below task h; aligned = (g.bodies.each task below).aligned }

pub side_at : (image : ImageView) (h : History) (task : ℕ) → IsImage image → IsGood image h → IsTaskOrNobody (length image.loads) task →
    IsSideAt image h task (marker_at image h task)
side_at image h task i g there =
    elim there [
      | inr below ↦
          let other : task ≢ nobody = λ e. omega (arith, e, below, tasks_few image i) in
          let marker : marker_at image h task ≡ marker_of (standing_at image h task) = rw (ne_eqb task nobody other) refl in
          subst (IsSideAt image h task) (sym marker) (record {
            there = inr below;
            marker = task_marker image h task g below;
            zero = λ e. absurd (other e);
            reached = λ _. omega arith;
          })
      | inl e ↦
          let marker : marker_at image h task ≡ zero_marker = rw (eq-eqb task nobody e) refl in
          subst (IsSideAt image h task) (sym marker) (record {
            there = inl e;
            marker = record { count = omega arith; aligned = refl };
            zero = λ _. refl;
            reached = λ _. omega arith;
          })
    ]

-- one moment on
pub side_more : (image : ImageView) (m : Moment) (h : History) (task : ℕ) (at : Marker) → IsSideAt image h task at → IsSideAt image (m ∷ h) task at
side_more image m h task at s = record {
  there = s.there;
  marker = s.marker;
  zero = s.zero;
  reached = λ below. omega (arith, s.reached below, epochs_rise task m h);
}
