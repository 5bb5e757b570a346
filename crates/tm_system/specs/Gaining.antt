-- What a moment tells is what the lists of the run gain by it.
use Rattle.std.specs.Prelude.{◌≡◌, ℕ, ◌==◌, if◌then◌else◌, List, [], ◌∷◌, ◌++◌, length, Option, Some, None, option_to_list}
use Rattle.tm_image.specs.Image.{ImageView}
use Rattle.tm_system.specs.declared.machine.Told.{Told}
use Rattle.tm_system.specs.History.{Moment, History}
use Rattle.tm_system.specs.Run.{running_at, body_at, next_moment, arrival, now}
use Rattle.tm_system.specs.Controls.{controls, entries, outputs, Checkpoint, checkpoints}
use Rattle.tm_system.specs.Machine.{told_of}

-- a task's checkpoint at a moment: its body then, how many data entries it has, the moment's included, and
-- how many control entries there were before the moment
abbrev pub checkpoint_at : ImageView → ℕ → Moment → History → Checkpoint
checkpoint_at image task m h = record {
  body = body_at image (m ∷ h) task;
  data_number = length (entries task (m ∷ h));
  control_number = length (controls image h);
}

-- what was told for one task, where it was told for that task
abbrev pub told_for : {A : Type 0} → ℕ → ℕ → Option A → List A
told_for teller task told = if teller == task then option_to_list told else []

-- the checkpoint that a task gains, where one was told for it
abbrev pub gained_check : ℕ → Option ℕ → Checkpoint → List Checkpoint
gained_check task None check = []
gained_check task (Some other) check = if other == task then check ∷ [] else []

-- the lists gain what was told of the moment; its data entry belongs to this task
pub record Gains (image : ImageView) (m : Moment) (h : History) (told : Told) (teller : ℕ) : Type 0 where
  pub controls : controls image (m ∷ h) ≡ controls image h ++ option_to_list told.switch
  pub outputs : outputs (m ∷ h) ≡ outputs h ++ option_to_list told.output
  pub entries : (task : ℕ) → entries task (m ∷ h) ≡ entries task h ++ told_for teller task told.entry
  pub checkpoints : (task : ℕ) →
      checkpoints image task (m ∷ h) ≡ checkpoints image task h ++ gained_check task told.checkpoint (checkpoint_at image task m h)

-- an instruction tells what the lists gain; its data entry is the running task's
abbrev pub TurnsGain : Type 0
TurnsGain = (image : ImageView) (h : History) →
    Gains image (next_moment image h) h (told_of image (next_moment image h) h) (running_at image h)

-- an arrival tells what the lists gain; it has no data entry
abbrev pub ArrivalsGain : Type 0
ArrivalsGain = (image : ImageView) (h : History) (mask : ℕ) (ports : List ℕ) (teller : ℕ) →
    Gains image (arrival (now image h) mask ports) h (told_of image (arrival (now image h) mask ports) h) teller
