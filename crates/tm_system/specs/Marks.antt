-- The marker of a task, counted over the whole run.
use Rattle.std.specs.Prelude.{ℕ, ◌+◌, Bool, false, ◌&&◌, ◌||◌, ◌==◌, if◌then◌else◌, [], ◌∷◌}
use Rattle.tm_marker.specs.declared.marker.Marker.{Marker}
use Rattle.tm_marker.specs.declared.marker.TheConstants.{EPOCH_LENGTH}
use Rattle.tm_task.specs.Standing.{Standing, begins_epoch, marker_of}
use Rattle.tm_kernel.specs.State.{nobody}
use Rattle.tm_image.specs.Image.{ImageView}
use Rattle.tm_system.specs.History.{Deed, Arrives, Steps, Answers, Faulted, History}
use Rattle.tm_system.specs.Run.{body_at}

-- the deed is a backward transfer of the task
abbrev pub is_back : ℕ → Deed → Bool
is_back task (Arrives mask ports) = false
is_back task (Steps other back) = other == task && back
is_back task (Answers other entry output) = false
is_back task (Faulted other cause) = false

-- the deed is an answer to the task that begins an epoch
abbrev pub begins : ℕ → Deed → Bool
begins task (Arrives mask ports) = false
begins task (Steps other back) = false
begins task (Answers other entry output) = other == task && begins_epoch entry
begins task (Faulted other cause) = false

-- the deed starts an epoch of the task, `count` being its backward transfers since the start before:
-- by its entry, or by the backward transfer that fills the epoch
abbrev pub is_start : ℕ → Deed → ℕ → Bool
is_start task deed count = begins task deed || (is_back task deed && count + 1 == EPOCH_LENGTH)

-- the task's backward transfers since its last epoch start, or since boot
unfoldable pub backs : ℕ → History → ℕ
backs task [] = 0
backs task (m ∷ h) =
    if is_start task m.deed (backs task h) then 0
    else if is_back task m.deed then backs task h + 1
    else backs task h

-- the task's epoch starts
unfoldable pub epochs : ℕ → History → ℕ
epochs task [] = 0
epochs task (m ∷ h) = if is_start task m.deed (backs task h) then epochs task h + 1 else epochs task h

-- where a task stands
abbrev pub standing_at : ImageView → History → ℕ → Standing
standing_at image h task =
    record { body = body_at image h task; epoch = epochs task h; count = backs task h }

-- a task's marker; nobody has the zero marker
abbrev pub marker_at : ImageView → History → ℕ → Marker
marker_at image h task =
    if task == nobody then record { epoch = 0; count = 0; pc = 0 } else marker_of (standing_at image h task)
