-- The window of a run, as one value.
use Rattle.std.specs.Prelude.{ℕ, List, map, length}
use Rattle.tm_ring.specs.Buffer.{keep_last}
use Rattle.tm_marker.specs.declared.tail.Tail.{Tail}
use Rattle.tm_task.specs.Standing.{marker_of}
use Rattle.tm_kernel.specs.State.{state_number}
use Rattle.tm_image.specs.Image.{ImageView, words_of, shape_of}
use Rattle.tm_ring.specs.Kept.{Kept, kept}
use Rattle.tm_check.specs.Checkpoint.{Checkpoint, KeptChecks, kept_checks}
use Rattle.tm_log.specs.Window.{WindowView}
use Rattle.tm_system.specs.History.{History}
use Rattle.tm_system.specs.Run.{now, running_at}
use Rattle.tm_system.specs.Marks.{standing_at}
use Rattle.tm_system.specs.Controls.{controls, entries, outputs, checkpoints}
use Rattle.tm_system.specs.Telling.{below}

-- the last items of a list, and its length as the total
abbrev pub last_items : {X : Type 0} → ℕ → List X → Kept X
last_items cap all = kept (keep_last cap all) (length all) cap

-- the last checkpoints of a task with so many data words
abbrev pub last_checks : ℕ → ℕ → List Checkpoint → KeptChecks
last_checks cap words all = kept_checks (keep_last cap all) (length all) cap words

-- the run's last moment: who runs, whether the run has ended, and each task's marker and state
abbrev pub tail_at : ImageView → History → Tail
tail_at image h = record {
  running = running_at image h;
  ended = (now image h).kernel.ended;
  at = below (length image.loads) (λ task. marker_of (standing_at image h task));
  state = map state_number (now image h).kernel.states;
}

-- the last items of each list that a run has left, up to the image's capacities, each list's length, and
-- the run's last moment
abbrev pub window_of : ImageView → History → WindowView
window_of image h = record {
  shape = shape_of image;
  control = last_items (shape_of image).caps.control (controls image h);
  outputs = last_items (shape_of image).caps.outputs (outputs h);
  logs = below (length image.loads) (λ task. last_items (shape_of image).caps.logs (entries task h));
  checks = below (length image.loads)
      (λ task. last_checks (shape_of image).caps.checks (length (words_of image task)) (checkpoints image task h));
  tail = tail_at image h;
}
