-- How long the lists of a run are: none is longer than the run, but for the boot's checkpoint; a task has one
-- checkpoint for each epoch, and epochs only go up.
use Rattle.std.proofs.Common.{◌≡◌, ℕ, suc, ◌+◌, ◌≤◌, Bool, true, false, ◌==◌, if◌then◌else◌, List, [], ◌∷◌, ◌++◌, length, Option, Some, None, refl, arith, length-append}
use Rattle.std.specs.Prelude.{option_to_list}
use Rattle.tm_image.specs.Image.{ImageView}
use Rattle.tm_system.specs.History.{Deed, Arrives, Steps, Answers, Faulted, Moment, History}
use Rattle.tm_system.specs.Gaining.{checkpoint_at}
use Rattle.tm_system.specs.Marks.{is_start, backs, epochs}
use Rattle.tm_system.specs.Controls.{entries, entries_of, outputs, output_of, checkpoints, Checkpoint}

at_most_one : {A : Type 0} (o : Option A) → length (option_to_list o) ≤ 1
at_most_one None = omega arith
at_most_one (Some x) = omega arith

if_one : {A : Type 0} (b : Bool) (x : A) → length (if b then x ∷ [] else []) ≤ 1
if_one true x = omega arith
if_one false x = omega arith

entries_of_few : (task : ℕ) (deed : Deed) → length (entries_of task deed) ≤ 1
entries_of_few task (Arrives mask ports) = omega arith
entries_of_few task (Steps other back) = omega arith
entries_of_few task (Answers other entry output) = if_one (other == task) entry
entries_of_few task (Faulted other cause) = omega arith

pub entries_few : (task : ℕ) (h : History) → length (entries task h) ≤ length h
unfolding entries
entries_few task [] = omega arith
entries_few task (m ∷ h) =
    omega (arith, length-append (entries task h) (entries_of task m.deed), entries_of_few task m.deed, entries_few task h)

pub outputs_few : (h : History) → length (outputs h) ≤ length h
unfolding outputs
outputs_few [] = omega arith
outputs_few (m ∷ h) =
    omega (arith, length-append (outputs h) (option_to_list (output_of m.deed)), at_most_one (output_of m.deed), outputs_few h)

one_more : (b : Bool) (xs : List Checkpoint) (x : Checkpoint) (n : ℕ) → length xs ≤ n + 1 → length (if b then xs ++ x ∷ [] else xs) ≤ suc n + 1
one_more true xs x n few = omega (arith, length-append xs (x ∷ []))
one_more false xs x n few = omega arith

pub checkpoints_few : (image : ImageView) (task : ℕ) (h : History) → length (checkpoints image task h) ≤ length h + 1
unfolding checkpoints
checkpoints_few image task [] = omega arith
checkpoints_few image task (m ∷ h) =
    one_more (is_start task m.deed (backs task h)) (checkpoints image task h) (checkpoint_at image task m h) (length h) (checkpoints_few image task h)

-- there is one checkpoint for each epoch
one_each : (b : Bool) (xs : List Checkpoint) (x : Checkpoint) (n : ℕ) → length xs ≡ n + 1 →
    length (if b then xs ++ x ∷ [] else xs) ≡ (if b then n + 1 else n) + 1
one_each true xs x n e = omega (arith, length-append xs (x ∷ []))
one_each false xs x n e = e

pub checkpoints_count : (image : ImageView) (t : ℕ) (h : History) → length (checkpoints image t h) ≡ epochs t h + 1
unfolding checkpoints epochs
checkpoints_count image t [] = refl
checkpoints_count image t (m ∷ h) =
    one_each (is_start t m.deed (backs t h)) (checkpoints image t h) (checkpoint_at image t m h) (epochs t h) (checkpoints_count image t h)

more_or_same : (b : Bool) (n : ℕ) → n ≤ (if b then n + 1 else n)
more_or_same true n = omega arith
more_or_same false n = omega arith

-- no epoch goes down
pub epochs_rise : (t : ℕ) (m : Moment) (h : History) → epochs t h ≤ epochs t (m ∷ h)
unfolding epochs
epochs_rise t m h = more_or_same (is_start t m.deed (backs t h)) (epochs t h)
