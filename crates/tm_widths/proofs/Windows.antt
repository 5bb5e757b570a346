-- The window of a script's run is one that a dump can tell, and that is read back from it.
use Rattle.std.proofs.Common.{◌≡◌, ℕ, zero, suc, ◌+◌, ◌-◌, ◌<◌, ◌≤◌, ◌^◌, List, [], ◌∷◌, All, length, map, refl, ap, sym, ◌∙◌, subst, arith, option_map, length-drop, ◌++◌}
use Rattle.std.proofs.lemmas.List.{length-map, map-append}
use Rattle.std.proofs.lemmas.List.Elements.{All-nil, All-push, All-drop, All-weaker}
use Rattle.std.proofs.lemmas.Option.{slice_get-map, get_or_from_slice_get}
use Rattle.tm_marker.specs.declared.marker.Marker.{Marker}
use Rattle.tm_marker.specs.declared.entries.DataEntry.{DataEntry}
use Rattle.tm_marker.specs.declared.entries.Slice.{Slice}
use Rattle.tm_marker.specs.Shape.{IsCheckCap, IsRingCap, IsWordCount}
use Rattle.tm_ring.specs.Kept.{Kept, Holds, IsRing}
use Rattle.tm_check.specs.Checkpoint.{Checkpoint, KeptChecks, HoldsChecks, IsChecks, AreSized}
use Rattle.tm_log.specs.Window.{IsWindow}
use Rattle.tm_log.specs.WellFormed.{IsWellFormed}
use Rattle.tm_task.specs.Standing.{marker_of}
use Rattle.tm_kernel.specs.State.{state_number}
use Rattle.tm_image.specs.Image.{ImageView, IsImage, Load, words_of, shape_of}
use Rattle.tm_image.specs.Plan.{IsSlice}
use Rattle.tm_image.proofs.Wholes.{shape_is}
use Rattle.tm_system.specs.History.{History}
use Rattle.tm_system.specs.Run.{now, run}
use Rattle.tm_system.specs.Marks.{standing_at}
use Rattle.tm_system.specs.Controls.{controls, entries, outputs, checkpoints}
use Rattle.tm_system.specs.Telling.{below}
use Rattle.tm_system.specs.Machine.{MachineView, IsAt, task_at}
use Rattle.tm_system.specs.Laws.{IsSoundAt}
use Rattle.tm_system.specs.WindowOf.{last_items, last_checks, window_of}
use Rattle.tm_system.proofs.Below.{length-below, slice_get-below}
use Rattle.tm_system.proofs.Booting.{load_there, load_sound}
use Rattle.tm_system.proofs.Texts.{controls_few}
use Rattle.tm_system.proofs.Lengths.{played_short}
use Rattle.tm_record.specs.StandsFor.{RecorderView, IsReal}
use Rattle.tm_record.specs.Window.{IsWindowOf}
use Rattle.tm_record.proofs.WindowOf.{list_below}
use Rattle.tm_system.proofs.Counts.{entries_few, outputs_few, checkpoints_few}
use Rattle.tm_record.proofs.WellFormed.{recorders_are_well_formed}
use Rattle.tm_fidelity.proofs.Reading.{log_is, checks_is}
use Rattle.tm_fidelity.proofs.Moving.{walks}
use Rattle.tm_dump.specs.Laws.{AreBuffers}
use Rattle.tm_dump.specs.Widths.{IsWord, FitsData, FitsSwitch, FitsCheckpoint, Fits}
use Rattle.tm_dump.proofs.FoundTop.{dumps_read}
use Rattle.tm_widths.specs.Legible.{IsScript, DumpsOfRunsAreRead}
use Rattle.tm_widths.proofs.Runs.{FitsOutput, FitsRun, IsWide, run_wide}

-- what holds of each number below another
all_below_hold : {A : Type 0} (P : A → Type 0) (n : ℕ) (f : ℕ → A) → ((t : ℕ) → t < n → P (f t)) → All P (below n f)
all_below_hold P zero f each = All-nil P
all_below_hold P (suc n) f each = All-push P (below n f) (f n) (all_below_hold P n f (λ t lt. each t (omega arith))) (each n (omega arith))

-- as many items as the image has tasks
many : {A : Type 0} (image : ImageView) (f : ℕ → A) → length (below (length image.loads) f) ≡ length (shape_of image).words
many image f = length-below (length image.loads) f ∙ sym (length-map image.loads _)

map_below : {A B : Type 0} (g : A → B) (n : ℕ) (f : ℕ → A) → map g (below n f) ≡ below n (λ t. g (f t))
map_below g zero f = refl
map_below g (suc n) f = map-append g (below n f) (f n ∷ []) ∙ ap (λ xs. xs ++ g (f n) ∷ []) (map_below g n f)

-- the numbers of data words, by the tasks
words_are : (image : ImageView) → (shape_of image).words ≡ below (length image.loads) (λ t. length (words_of image t))
words_are image =
    list_below (map (λ (l : Load). length l.words) image.loads) (length image.loads) (λ t. length (words_of image t)) 0 (length-map image.loads _)
    (λ t there. get_or_from_slice_get (map (λ (l : Load). length l.words) image.loads) t (length (words_of image t)) 0
    (slice_get-map (λ (l : Load). length l.words) image.loads t ∙ ap (option_map (λ (l : Load). length l.words)) (load_there image t there)))

-- the window is one
pub window_is : (image : ImageView) (h : History) → IsImage image → IsSoundAt image h → IsWindow (window_of image h)
window_is image h i s = record {
  shape = shape_is image i;
  control = refl;
  outputs = refl;
  logs = many image _;
  log_caps = all_below_hold (λ (ring : Kept DataEntry). ring.cap ≡ image.caps.logs) (length image.loads) _ (λ t lt. refl);
  checks = many image _;
  check_caps = all_below_hold (λ (checks : KeptChecks). checks.cap ≡ image.caps.checks) (length image.loads) _ (λ t lt. refl);
  check_words = map_below (λ (checks : KeptChecks). checks.words) (length image.loads) _ ∙ sym (words_are image);
  at = many image _;
  state = length-map (now image h).kernel.states state_number ∙ s.kernel.states ∙ ap (λ spec. length spec.tasks) s.spec ∙ sym i.loads ∙ sym (length-map image.loads _);
}

-- a ring of the last items of a list
ring_is : {X : Type 0} (cap : ℕ) (all : List X) → IsRingCap cap → length all ≤ 2 ^ 53 → IsRing (last_items cap all)
ring_is cap all c few =
    let long = length-drop (length all - cap) all in
    record { some = c.some; few = c.few; fit = omega (arith, long); among = omega (arith, long); counted = few }

checks_are : (cap words : ℕ) (all : List Checkpoint) → IsCheckCap cap → IsWordCount words → length all ≤ 2 ^ 53 → AreSized words all →
    IsChecks (last_checks cap words all)
checks_are cap words all c w few sized =
    let long = length-drop (length all - cap) all in
    record {
      cap = c;
      words = w;
      fit = omega (arith, long);
      among = omega (arith, long);
      counted = few;
      sized = All-drop (λ (c : Checkpoint). length c.body.words ≡ words) (length all - cap) all sized;
    }

pub buffers_are : (image : ImageView) (h : History) → IsImage image → FitsRun image h → length h + 1 ≤ 2 ^ 53 → AreBuffers (window_of image h)
buffers_are image h i f few = record {
  control = ring_is image.caps.control (controls image h) i.caps.control (omega (arith, controls_few image h, few));
  outputs = ring_is image.caps.outputs (outputs h) i.caps.outputs (omega (arith, outputs_few h, few));
  logs = all_below_hold IsRing (length image.loads) _
      (λ t lt. ring_is image.caps.logs (entries t h) i.caps.logs (omega (arith, entries_few t h, few)));
  checks = all_below_hold IsChecks (length image.loads) _ (λ t lt.
      (let load = load_sound image t i lt in
      checks_are image.caps.checks (length (words_of image t)) (checkpoints image t h) i.caps.checks
      (record { some = load.some_words; few = load.few_words }) (omega (arith, checkpoints_few image t h, few)) (f.sized t lt)));
}

-- its numbers fit
numbers_fit : (image : ImageView) (h : History) → IsImage image → IsWide image h → length h < 2 ^ 53 → Fits (window_of image h)
numbers_fit image h i x few = record {
  control = All-drop FitsSwitch (length (controls image h) - image.caps.control) (controls image h) (x.fits.controls few);
  outputs = All-drop FitsOutput (length (outputs h) - image.caps.outputs) (outputs h) x.fits.outputs;
  logs = all_below_hold (λ (ring : Kept DataEntry). All FitsData ring.items) (length image.loads) _
      (λ t lt. All-drop FitsData (length (entries t h) - image.caps.logs) (entries t h) (x.fits.entries t));
  checks = all_below_hold (λ (kept : KeptChecks). All FitsCheckpoint kept.items) (length image.loads) _
      (λ t lt. All-drop FitsCheckpoint (length (checkpoints image t h) - image.caps.checks) (checkpoints image t h) (x.fits.checks t lt));
  at = all_below_hold (λ (m : Marker). IsWord m.pc) (length image.loads) _ (λ t lt. (walks image t h i x.good.run lt).pc.1);
}

-- a machine that stands where the run does, and a recorder of both
machine_of : ImageView → History → MachineView
machine_of image h = record { tasks = below (length image.loads) (task_at image h); kernel = (now image h).kernel }

recorder_of : ImageView → List Slice → RecorderView
recorder_of image script = record {
  image = image;
  machine = machine_of image (run image script);
  window = window_of image (run image script);
  slices = length script;
}

machine_is : (image : ImageView) (h : History) → IsSoundAt image h → IsAt image (machine_of image h) h
unfolding machine_of
machine_is image h s = record {
  spec = s.spec;
  kernel = refl;
  bodies = s.bodies;
  tasks = length-below (length image.loads) (task_at image h);
  each = λ t lt. slice_get-below (length image.loads) (task_at image h) t lt;
}

ring_holds : {X : Type 0} (cap : ℕ) (all : List X) → Holds (last_items cap all) all
ring_holds cap all = record { items = refl; total = refl }

checks_hold : (cap words : ℕ) (all : List Checkpoint) → HoldsChecks (last_checks cap words all) all
checks_hold cap words all = record { items = refl; total = refl }

window_holds : (image : ImageView) (h : History) → IsWindowOf image (window_of image h) h
window_holds image h = record {
  shape = refl;
  lists = record {
    control = ring_holds image.caps.control (controls image h);
    outputs = ring_holds image.caps.outputs (outputs h);
    logs = λ t lt. subst (λ (ring : Kept DataEntry). Holds ring (entries t h)) (sym (log_is image h t lt)) (ring_holds image.caps.logs (entries t h));
    checks = λ t lt. subst (λ (checks : KeptChecks). HoldsChecks checks (checkpoints image t h)) (sym (checks_is image h t lt))
        (checks_hold image.caps.checks (length (words_of image t)) (checkpoints image t h));
  };
  tail = record {
    running = refl;
    ended = refl;
    at = λ t lt. slice_get-below (length image.loads) (λ task. marker_of (standing_at image h task)) t lt;
    state = λ t lt. slice_get-map state_number (now image h).kernel.states t;
  };
}

recorder_is : (image : ImageView) (script : List Slice) → IsSoundAt image (run image script) → IsScript script → IsReal (recorder_of image script)
unfolding recorder_of
recorder_is image script s is = record {
  script = script;
  valid = is.slices;
  stands = record {
    opened = refl;
    machine = machine_is image (run image script) s;
    window = window_holds image (run image script);
    slices = refl;
  };
  few = is.few;
}

well_formed : (image : ImageView) (script : List Slice) → IsImage image → IsSoundAt image (run image script) → IsScript script →
    IsWellFormed (window_of image (run image script)) (shape_of image)
unfolding recorder_of
well_formed image script i s is =
    recorders_are_well_formed (recorder_of image script) i (window_is image (run image script) i s) (recorder_is image script s is)

pub run_short : (image : ImageView) (script : List Slice) → IsScript script → length (run image script) + 1 < 2 ^ 53
run_short image script is =
    let short = played_short image script [] (All-weaker IsSlice (λ s. s.length ≤ 1048576) (λ s each. each.short) script is.slices) in
    omega (arith, short, is.few)

pub dumps_of_runs_are_read : DumpsOfRunsAreRead
dumps_of_runs_are_read image script i f is =
    let h : History = run image script in
    let x : IsWide image h = run_wide image script i f is.ports in
    let short = run_short image script is in
    dumps_read (shape_of image) (window_of image h) (window_is image h i x.good.sound)
    (buffers_are image h i x.fits (omega (arith, short))) (numbers_fit image h i x (omega (arith, short)))
    (well_formed image script i x.good.sound is)
