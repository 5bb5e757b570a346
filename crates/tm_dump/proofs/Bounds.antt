-- The buffers of a task have the capacities of the window's shape.
use Rattle.std.proofs.Common.{◌≡◌, ℕ, ◌+◌, ◌*◌, ◌≤◌, List, Some, ap, subst, ◌∙◌, arith}
use Rattle.std.specs.Prelude.{All, option_map, slice_get}
use Rattle.std.proofs.lemmas.Option.{slice_get_within, get_or_from_slice_get, slice_get-map}
use Rattle.tm_marker.specs.declared.entries.DataEntry.{DataEntry}
use Rattle.tm_marker.specs.Shape.{IsWordCount}
use Rattle.tm_ring.specs.Kept.{Kept}
use Rattle.tm_check.specs.Checkpoint.{KeptChecks}
use Rattle.tm_log.specs.Window.{WindowView, IsWindow, task_bound}

-- what holds of all holds of the item at an index
pub all_at : {X : Type 0} (P : X → Type 0) (xs : List X) (i : ℕ) (x : X) → All P xs → slice_get xs i ≡ Some x → P x
all_at P xs i x all there =
    subst P (get_or_from_slice_get xs i x x there) (all i x (slice_get_within xs i x there))

-- these are the data entries and the checkpoints of a task of the window, as its shape says
pub record IsTaskOf (w : WindowView) (task : ℕ) (log : Kept DataEntry) (checks : KeptChecks) : Type 0 where
  pub log_cap : log.cap ≡ w.shape.caps.logs
  pub check_cap : checks.cap ≡ w.shape.caps.checks
  pub words : slice_get w.shape.words task ≡ Some checks.words

pub is_task_of : (w : WindowView) (task : ℕ) (log : Kept DataEntry) (checks : KeptChecks) → IsWindow w →
    slice_get w.logs task ≡ Some log → slice_get w.checks task ≡ Some checks → IsTaskOf w task log checks
is_task_of w task log checks i l c = record {
  log_cap = all_at (λ (ring : Kept DataEntry). ring.cap ≡ w.shape.caps.logs) w.logs task log i.log_caps l;
  check_cap = all_at (λ (k : KeptChecks). k.cap ≡ w.shape.caps.checks) w.checks task checks i.check_caps c;
  words = subst (λ ws. slice_get ws task ≡ Some checks.words) i.check_words
      (slice_get-map (λ (k : KeptChecks). k.words) w.checks task ∙ ap (option_map (λ (k : KeptChecks). k.words)) c);
}

-- a task's buffers are within the limits of every shape
pub record IsWithin (log : Kept DataEntry) (checks : KeptChecks) : Type 0 where
  pub log_cap : log.cap ≤ 65536
  pub check_cap : checks.cap ≤ 64
  pub words : checks.words ≤ 16384

pub is_within : (w : WindowView) (task : ℕ) (log : Kept DataEntry) (checks : KeptChecks) → IsWindow w →
    IsTaskOf w task log checks → IsWithin log checks
is_within w task log checks i t = record {
  log_cap = omega (arith, t.log_cap, i.shape.caps.logs.few);
  check_cap = omega (arith, t.check_cap, i.shape.caps.checks.few);
  words = (all_at IsWordCount w.shape.words task checks.words i.shape.words t.words).few;
}

-- what a task's buffers have at most is what the shape's bound says of it
pub bound_of_task : (w : WindowView) (task : ℕ) (log : Kept DataEntry) (checks : KeptChecks) → IsTaskOf w task log checks →
    16 + 21 * log.cap + (144 + 4 * checks.words) * checks.cap ≡ task_bound w.shape.caps checks.words
bound_of_task w task log checks t =
    let e : (144 + 4 * checks.words) * checks.cap ≡ (144 + 4 * checks.words) * w.shape.caps.checks = ap (λ n. (144 + 4 * checks.words) * n) t.check_cap in
    omega (arith, e, t.log_cap)
