-- A moment that adds to no list leaves every list of the run, and who runs, as they were.
use Rattle.std.proofs.Common.{◌≡◌, ◌≢◌, ℕ, zero, suc, ◌<◌, ◌≤◌, Bool, true, false, ◌||◌, not, ◌==◌, [], ◌∷◌, length, refl, ap, sym, ◌∙◌, subst, arith, inl, inr, Some, None, is_some}
use Rattle.std.proofs.lemmas.Bool.{cases_Bool, cases_eq, eqb-true, le-ltb}
use Rattle.std.proofs.lemmas.List.{append-nil}
use Rattle.std.specs.Prelude.{if◌then◌else◌}
use Rattle.tm_kernel.specs.State.{nobody}
use Rattle.tm_image.specs.Image.{ImageView}
use Rattle.tm_system.specs.declared.machine.Told.{Told}
use Rattle.tm_system.specs.History.{Deed, Arrives, Steps, Answers, Faulted, Moment, History}
use Rattle.tm_system.specs.Run.{running_at, next_moment, turned, turns}
use Rattle.tm_system.specs.Marks.{is_start, backs}
use Rattle.tm_system.specs.Controls.{is_switch, switch_at, controls, entries_of, entries, output_of, outputs, checkpoints}
use Rattle.tm_system.specs.Telling.{printed, made, pending, blocks}
use Rattle.tm_system.specs.Machine.{entry_told, checkpoint_told, told_of, told_going_on, IsQuiet}
use Rattle.tm_system.specs.Quiet.{AddsNothing}
use Rattle.tm_system.proofs.Marking.{apart_starts, arrives_apart, steps_apart, faulted_apart}
use Rattle.tm_system.proofs.Turning.{turned_runs}

-- what is told of a moment that adds nothing: no control entry, no data entry, no output, no epoch start
record TellsNothing (image : ImageView) (m : Moment) (h : History) : Type 0 where
  switch : is_switch image m h ≡ false
  entry : entry_told m.deed ≡ None
  output : output_of m.deed ≡ None
  checkpoint : checkpoint_told m.deed h ≡ None

tells_nothing : (image : ImageView) (m : Moment) (h : History) → told_of image m h ≡ told_going_on → TellsNothing image m h
tells_nothing image m h quiet = record {
  switch = elim (cases_Bool (is_switch image m h)) [
    | inl e ↦
        let told : (if is_switch image m h then Some (switch_at image m h) else None) ≡ None = ap (λ (t : Told). t.switch) quiet in
        let made : Some (switch_at image m h) ≡ None = rw e at told in
        absurd cc
    | inr e ↦ e
  ];
  entry = ap (λ (t : Told). t.entry) quiet;
  output = ap (λ (t : Told). t.output) quiet;
  checkpoint = ap (λ (t : Told). t.checkpoint) quiet;
}

-- no control entry: the same task runs
same_runner : (test : Bool) (a b : ℕ) → (test || not (a == b)) ≡ false → b ≡ a
same_runner true a b h = absurd cc
same_runner false a b h = elim (cases_Bool (a == b)) [
  | inl e ↦ sym (eqb-true a b e)
  | inr e ↦ absurd (let h' : true ≡ false = rw e at h in cc)
]

-- no data entry: no task's list has one more
none_entered : (deed : Deed) (task : ℕ) → entry_told deed ≡ None → entries_of task deed ≡ []
none_entered (Arrives mask ports) task h = refl
none_entered (Steps other back) task h = refl
none_entered (Answers other entry output) task h = absurd cc
none_entered (Faulted other cause) task h = refl

none_made : (deed : Deed) (task : ℕ) → entry_told deed ≡ None → made task deed ≡ []
none_made (Arrives mask ports) task h = refl
none_made (Steps other back) task h = refl
none_made (Answers other entry output) task h = absurd cc
none_made (Faulted other cause) task h = refl

-- the task of a step starts no epoch where no checkpoint is told
step_goes_on : (r : ℕ) (back : Bool) (h : History) → checkpoint_told (Steps r back) h ≡ None → is_start r (Steps r back) (backs r h) ≡ false
step_goes_on r back h told = elim (cases_Bool (is_start r (Steps r back) (backs r h))) [
  | inl e ↦
      let some : Some r ≡ None = rw e at told in
      absurd cc
  | inr e ↦ e
]

-- no checkpoint: no task starts an epoch
none_started : (deed : Deed) (h : History) (task : ℕ) → entry_told deed ≡ None → checkpoint_told deed h ≡ None → is_start task deed (backs task h) ≡ false
none_started (Arrives mask ports) h task entry told = apart_starts task _ (backs task h) (arrives_apart task mask ports)
none_started (Steps r back) h task entry told = elim (cases_eq task r) [
  | inl same ↦ subst (λ (t : ℕ). is_start t (Steps r back) (backs t h) ≡ false) (sym same) (step_goes_on r back h told)
  | inr other ↦ apart_starts task _ (backs task h) (steps_apart task r back other)
]
none_started (Answers r entry output) h task e told = absurd cc
none_started (Faulted r cause) h task entry told = apart_starts task _ (backs task h) (faulted_apart task r cause)

-- each list, through a moment that adds nothing
controls_rest : (image : ImageView) (m : Moment) (h : History) → is_switch image m h ≡ false → controls image (m ∷ h) ≡ controls image h
unfolding controls
controls_rest image m h e = rw e refl

blocks_rest : (image : ImageView) (p : ℕ) (m : Moment) (h : History) → is_switch image m h ≡ false → blocks image p (m ∷ h) ≡ blocks image p h
unfolding blocks
blocks_rest image p m h e = rw e refl

printed_rest : (image : ImageView) (p task : ℕ) (m : Moment) (h : History) → is_switch image m h ≡ false → p ≤ length (controls image h) →
    printed image p task (m ∷ h) ≡ printed image p task h
unfolding printed
printed_rest image p task m h e after = rw (le-ltb (length (controls image h)) p after, e) refl

pending_rest : (image : ImageView) (task : ℕ) (m : Moment) (h : History) → is_switch image m h ≡ false → made task m.deed ≡ [] →
    pending image task (m ∷ h) ≡ pending image task h
unfolding pending
pending_rest image task m h e none = rw (e, none) (append-nil _)

entries_rest : (task : ℕ) (m : Moment) (h : History) → entries_of task m.deed ≡ [] → entries task (m ∷ h) ≡ entries task h
unfolding entries
entries_rest task m h none = rw none (append-nil _)

outputs_rest : (m : Moment) (h : History) → output_of m.deed ≡ None → outputs (m ∷ h) ≡ outputs h
unfolding outputs
outputs_rest m h none = rw none (append-nil _)

checkpoints_rest : (image : ImageView) (task : ℕ) (m : Moment) (h : History) → is_start task m.deed (backs task h) ≡ false →
    checkpoints image task (m ∷ h) ≡ checkpoints image task h
unfolding checkpoints
checkpoints_rest image task m h e = rw e refl

-- a quiet moment
pub quiet_adds_nothing : (image : ImageView) (m : Moment) (h : History) → told_of image m h ≡ told_going_on → AddsNothing image h (m ∷ h)
quiet_adds_nothing image m h quiet =
    let t : TellsNothing image m h = tells_nothing image m h quiet in
    record {
      running = same_runner (is_some m.leaves) (running_at image h) m.after.kernel.running t.switch;
      printed = λ p task after. printed_rest image p task m h t.switch after;
      pending = λ task. pending_rest image task m h t.switch (none_made m.deed task t.entry);
      blocks = λ p. blocks_rest image p m h t.switch;
      checkpoints = λ task. checkpoints_rest image task m h (none_started m.deed h task t.entry t.checkpoint);
      entries = λ task. entries_rest task m h (none_entered m.deed task t.entry);
      outputs = outputs_rest m h t.output;
      controls = controls_rest image m h t.switch;
    }

-- nothing, and then nothing
same_adds_nothing : (image : ImageView) (h g : History) → g ≡ h → AddsNothing image h g
same_adds_nothing image h g same = record {
  running = ap (λ (x : History). running_at image x) same;
  printed = λ p task after. ap (λ (x : History). printed image p task x) same;
  pending = λ task. ap (λ (x : History). pending image task x) same;
  blocks = λ p. ap (λ (x : History). blocks image p x) same;
  checkpoints = λ task. ap (λ (x : History). checkpoints image task x) same;
  entries = λ task. ap (λ (x : History). entries task x) same;
  outputs = ap (λ (x : History). outputs x) same;
  controls = ap (λ (x : History). controls image x) same;
}

then_adds_nothing : (image : ImageView) (h g k : History) → AddsNothing image h g → AddsNothing image g k → AddsNothing image h k
then_adds_nothing image h g k first next = record {
  running = next.running ∙ first.running;
  printed = λ p task after. next.printed p task (omega (arith, ap length first.controls)) ∙ first.printed p task after;
  pending = λ task. next.pending task ∙ first.pending task;
  blocks = λ p. next.blocks p ∙ first.blocks p;
  checkpoints = λ task. next.checkpoints task ∙ first.checkpoints task;
  entries = λ task. next.entries task ∙ first.entries task;
  outputs = next.outputs ∙ first.outputs;
  controls = next.controls ∙ first.controls;
}

turns_none : (image : ImageView) (h : History) → turns image zero h ≡ h
unfolding turns
turns_none image h = refl

turns_next : (image : ImageView) (n : ℕ) (h : History) → turns image (suc n) h ≡ turned image (turns image n h)
unfolding turns
turns_next image n h = refl

-- quiet turns
pub quiet_turns : (image : ImageView) (n : ℕ) (h : History) → running_at image h ≢ nobody →
    ((i : ℕ) → i < n → IsQuiet image (turns image i h)) → AddsNothing image h (turns image n h)
quiet_turns image zero h somebody quiet = same_adds_nothing image h _ (turns_none image h)
quiet_turns image (suc n) h somebody quiet =
    let so_far : AddsNothing image h (turns image n h) = quiet_turns image n h somebody (λ i below. quiet i (omega arith)) in
    let more : turns image (suc n) h ≡ next_moment image (turns image n h) ∷ turns image n h =
    turns_next image n h ∙ turned_runs image (turns image n h) (running_at image (turns image n h)) refl (λ e. somebody (sym so_far.running ∙ e)) in
    then_adds_nothing image h (turns image n h) (turns image (suc n) h) so_far
    (subst (λ (x : History). AddsNothing image (turns image n h) x) (sym more)
    (quiet_adds_nothing image (next_moment image (turns image n h)) (turns image n h) (quiet n (omega arith))))
