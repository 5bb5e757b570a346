-- Every number of a run is of the width that a dump gives it.
use Rattle.std.proofs.Common.{◌≡◌, ◌≢◌, ℕ, zero, suc, ◌<◌, ◌≤◌, ◌^◌, ◌⊎◌, Bool, true, false, ◌==◌, if◌then◌else◌, List, [], ◌∷◌, ◌++◌, All, length, refl, ap, sym, ◌∙◌, subst, arith, inl, inr, Option, Some, None, slice_get, unwrap_or}
use Rattle.std.specs.Prelude.{IfSome, option_to_list}
use Rattle.std.proofs.lemmas.Bool.{cases_Bool, cases_lt, eq-eqb, eqb-false}
use Rattle.std.proofs.lemmas.List.{get_or_past}
use Rattle.std.proofs.lemmas.List.Elements.{All-nil, All-cons, All-head, All-tail, All-push, All-append, All-set, All-map}
use Rattle.std.proofs.lemmas.Option.{unwrap_or-slice_get}
use Rattle.tm_marker.specs.declared.body.Body.{Body}
use Rattle.tm_marker.specs.declared.entries.DataEntry.{DataEntry}
use Rattle.tm_marker.specs.declared.entries.OutputEntry.{OutputEntry}
use Rattle.tm_marker.specs.declared.entries.Slice.{Slice}
use Rattle.tm_task.specs.Exec.{Exec, Faults, Calls, Goes, exec}
use Rattle.tm_task.specs.Standing.{args_of}
use Rattle.tm_kernel.specs.State.{nobody}
use Rattle.tm_image.specs.Image.{ImageView, IsImage, entry_of, text_of, words_of}
use Rattle.tm_check.specs.Checkpoint.{Checkpoint}
use Rattle.tm_system.specs.History.{Deed, Arrives, Steps, Answers, Faulted, Moment, History}
use Rattle.tm_system.specs.Run.{now, running_at, body_at, no_body, arrival, arrives, moment_by, next_moment, turned, turns, sliced, played, run}
use Rattle.tm_system.specs.Marks.{is_start, backs, marker_at}
use Rattle.tm_system.specs.Controls.{controls, is_switch, switch_at, entries, entries_of, outputs, output_of, checkpoints}
use Rattle.tm_system.specs.Gaining.{checkpoint_at}
use Rattle.tm_system.specs.Follows.{IsRun}
use Rattle.tm_system.proofs.Following.{IsGoodRun, boot_good, arrives_good, turned_good, running_in}
use Rattle.tm_system.proofs.Booting.{load_sound}
use Rattle.tm_system.proofs.Texts.{controls_stay, controls_more}
use Rattle.tm_system.proofs.Lengths.{epochs_few}
use Rattle.tm_system.specs.Bodies.{HaveBodies}
use Rattle.tm_system.proofs.Bodies.{boot_bodies, arrives_bodies, turned_bodies}
use Rattle.tm_record.proofs.Replies.{replies}
use Rattle.tm_fidelity.proofs.Upto.{no_controls}
use Rattle.tm_fidelity.proofs.Points.{marker_is}
use Rattle.tm_fidelity.proofs.Outputs.{running_there}
use Rattle.tm_fidelity.proofs.Moving.{entries_more, no_entries, walks}
use Rattle.tm_fidelity.proofs.Ways.{checks_more, checks_stay}
use Rattle.tm_dump.specs.Widths.{IsWord, FitsMarker, FitsSwitch, FitsData, FitsCheckpoint}
use Rattle.tm_widths.specs.Numbers.{FitsImage, FitsSlice, FitsBody, FitsKernel}
use Rattle.tm_widths.proofs.Kernels.{IsFit, answers_fit, arrived_fits, rescheduled_fits, stopped_fits, booted_fits}
use Rattle.tm_widths.proofs.Bodies.{args_fit, exec_fits, boot_fits, reply_fits}

-- an output's value is of 32 bits
abbrev pub FitsOutput : OutputEntry → Type 0
FitsOutput o = IsWord o.value

-- a checkpoint of a task of the image has the image's number of data words
abbrev pub IsSized : ImageView → ℕ → Checkpoint → Type 0
IsSized image t c = length c.body.words ≡ length (words_of image t)

-- the numbers of a run
pub record FitsRun (image : ImageView) (h : History) : Type 0 where
  pub kernel : FitsKernel (now image h).kernel
  pub bodies : All FitsBody (now image h).bodies
  pub entries : (t : ℕ) → All FitsData (entries t h)
  pub outputs : All FitsOutput (outputs h)
  pub checks : (t : ℕ) → t < length image.loads → All FitsCheckpoint (checkpoints image t h)
  pub sized : (t : ℕ) → t < length image.loads → All (IsSized image t) (checkpoints image t h)
  pub controls : length h < 2 ^ 53 → All FitsSwitch (controls image h)

-- a good run of such numbers
pub record IsWide (image : ImageView) (h : History) : Type 0 where
  pub good : IsGoodRun image h
  pub have : HaveBodies image h
  pub fits : FitsRun image h

body_fits : (bodies : List Body) (t : ℕ) → All FitsBody bodies → FitsBody (unwrap_or (slice_get bodies t) no_body)
body_fits bodies t all = subst FitsBody (sym (unwrap_or-slice_get bodies t no_body)) (elim (cases_lt t (length bodies)) [
  | inl within ↦ all t no_body within
  | inr past ↦ subst FitsBody (sym (get_or_past bodies t no_body past)) (record { regs = All-nil IsWord; words = All-nil IsWord })
])

-- a marker of a run
marker_fits : (image : ImageView) (h : History) (t : ℕ) → IsImage image → IsRun image h → (t ≡ nobody) ⊎ (t < length image.loads) → length h < 2 ^ 53 →
    FitsMarker (marker_at image h t)
marker_fits image h t i r (inl none) few = rw (eq-eqb t nobody none) (record { epoch = omega arith; pc = omega arith })
marker_fits image h t i r (inr below) few =
    subst FitsMarker (sym (marker_is image h t i below))
    (record { epoch = omega (arith, epochs_few t h, few); pc = (walks image t h i r below).pc.1 })

-- what a deed tells
abbrev FitsDeed : Deed → Type 0
FitsDeed (Arrives mask ports) = Unit {0}
FitsDeed (Steps task back) = Unit {0}
FitsDeed (Answers task entry output) = FitsData entry × IfSome output FitsOutput
FitsDeed (Faulted task cause) = Unit {0}

-- what a moment brings
record FitsMoment (m : Moment) : Type 0 where
  kernel : FitsKernel m.after.kernel
  bodies : All FitsBody m.after.bodies
  deed : FitsDeed m.deed

one_entry : (b : Bool) (entry : DataEntry) → FitsData entry → All FitsData (if b then entry ∷ [] else [])
one_entry true entry fits = All-cons FitsData entry [] fits (All-nil FitsData)
one_entry false entry fits = All-nil FitsData

told_entries : (t : ℕ) (d : Deed) → FitsDeed d → All FitsData (entries_of t d)
told_entries t (Arrives mask ports) f = All-nil FitsData
told_entries t (Steps task back) f = All-nil FitsData
told_entries t (Answers task entry output) f = one_entry (task == t) entry f.0
told_entries t (Faulted task cause) f = All-nil FitsData

one_output : (o : Option OutputEntry) → IfSome o FitsOutput → All FitsOutput (option_to_list o)
one_output None fits = All-nil FitsOutput
one_output (Some x) fits = All-cons FitsOutput x [] fits (All-nil FitsOutput)

told_outputs : (d : Deed) → FitsDeed d → All FitsOutput (option_to_list (output_of d))
told_outputs (Arrives mask ports) f = All-nil FitsOutput
told_outputs (Steps task back) f = All-nil FitsOutput
told_outputs (Answers task entry output) f = one_output output f.1
told_outputs (Faulted task cause) f = All-nil FitsOutput

outputs_more : (m : Moment) (h : History) → outputs (m ∷ h) ≡ outputs h ++ option_to_list (output_of m.deed)
unfolding outputs
outputs_more m h = refl

no_outputs : outputs [] ≡ []
unfolding outputs
no_outputs = refl

checks_boot : (image : ImageView) (t : ℕ) → checkpoints image t [] ≡ (record { body = body_at image [] t; data_number = 0; control_number = 0 }) ∷ []
unfolding checkpoints
checks_boot image t = refl

-- a checkpoint of a run, by its body
check_fits : (image : ImageView) (t : ℕ) (h : History) (c : Checkpoint) → IsImage image → IsRun image h → t < length image.loads →
    All FitsBody (now image h).bodies → c.body ≡ body_at image h t → FitsCheckpoint c
check_fits image t h c i r below all is =
    let task = walks image t h i r below in
    let fits : FitsBody (body_at image h t) = body_fits (now image h).bodies t all in
    record {
      pc = subst (λ (b : Body). IsWord b.pc) (sym is) task.pc.1;
      registers = ap (λ (b : Body). length b.regs) is ∙ task.registers;
      regs = subst (λ (b : Body). All IsWord b.regs) (sym is) fits.regs;
      words = subst (λ (b : Body). All IsWord b.words) (sym is) fits.words;
    }

switch_fits : (image : ImageView) (m : Moment) (h : History) → IsImage image → IsRun image h → IsRun image (m ∷ h) → length (m ∷ h) < 2 ^ 53 →
    FitsSwitch (switch_at image m h)
switch_fits image m h i r after few = record {
  from_at = marker_fits image (m ∷ h) (running_at image h) i after (running_there image h r) few;
  to_at = marker_fits image (m ∷ h) m.after.kernel.running i after (running_there image (m ∷ h) after) few;
}

-- one moment on
fits_on : (image : ImageView) (m : Moment) (h : History) → IsImage image → IsWide image h → IsGoodRun image (m ∷ h) → HaveBodies image (m ∷ h) → FitsMoment m →
    FitsRun image (m ∷ h)
fits_on image m h i x good have new = record {
  kernel = new.kernel;
  bodies = new.bodies;
  entries = λ t. subst (All FitsData) (sym (entries_more t m h))
      (All-append FitsData (entries t h) (entries_of t m.deed) (x.fits.entries t) (told_entries t m.deed new.deed));
  outputs = subst (All FitsOutput) (sym (outputs_more m h))
      (All-append FitsOutput (outputs h) (option_to_list (output_of m.deed)) x.fits.outputs (told_outputs m.deed new.deed));
  checks = λ t below. elim (cases_Bool (is_start t m.deed (backs t h))) [
    | inl e ↦ subst (All FitsCheckpoint) (sym (checks_more image t m h e))
        (All-push FitsCheckpoint (checkpoints image t h) (checkpoint_at image t m h) (x.fits.checks t below)
        (check_fits image t (m ∷ h) (checkpoint_at image t m h) i good.run below new.bodies refl))
    | inr e ↦ subst (All FitsCheckpoint) (sym (checks_stay image t m h e)) (x.fits.checks t below)
  ];
  sized = λ t below. elim (cases_Bool (is_start t m.deed (backs t h))) [
    | inl e ↦ subst (All (IsSized image t)) (sym (checks_more image t m h e))
        (All-push (IsSized image t) (checkpoints image t h) (checkpoint_at image t m h) (x.fits.sized t below) (have.each t below).words)
    | inr e ↦ subst (All (IsSized image t)) (sym (checks_stay image t m h e)) (x.fits.sized t below)
  ];
  controls = λ few. (let before : All FitsSwitch (controls image h) = x.fits.controls (omega (arith, few)) in
      elim (cases_Bool (is_switch image m h)) [
        | inl e ↦ subst (All FitsSwitch) (sym (controls_more image m h e))
            (All-push FitsSwitch (controls image h) (switch_at image m h) before (switch_fits image m h i x.good.run good.run few))
        | inr e ↦ subst (All FitsSwitch) (sym (controls_stay image m h e)) before
      ]);
}

-- an instruction
turn_by : (image : ImageView) (h : History) (e : Exec) → IsImage image → IsWide image h → running_at image h ≢ nobody →
    exec (text_of image (running_at image h)) (body_at image h (running_at image h)) ≡ e →
    FitsMoment (moment_by (entry_of image (running_at image h)) (now image h) (running_at image h) (body_at image h (running_at image h)) e)
turn_by image h (Goes next back) i x some is =
    let t : ℕ = running_at image h in
    record {
      kernel = x.fits.kernel;
      bodies = All-set FitsBody (now image h).bodies t next
          (exec_fits (text_of image t) (body_at image h t) next back (body_fits (now image h).bodies t x.fits.bodies) is) x.fits.bodies;
      deed = tt;
    }
turn_by image h (Calls service) i x some is =
    let t : ℕ = running_at image h in
    let b : Body = body_at image h t in
    let fits : FitsBody b = body_fits (now image h).bodies t x.fits.bodies in
    let there : t < length image.loads = running_in image h i x.good.sound some in
    let few : length b.words ≤ 16384 = omega (arith, (x.have.each t there).words, (load_sound image t i there).few_words) in
    let id : IsWord t = omega (arith, there, i.loads, i.spec.few_tasks) in
    let a : IsFit _ = answers_fit (now image h).kernel t service (args_of b) x.fits.kernel x.good.sound.kernel id refl (args_fit b fits) in
    let small = (replies (now image h).kernel t service (args_of b)).status in
    record {
      kernel = rescheduled_fits _ a.kernel;
      bodies = All-set FitsBody (now image h).bodies t _ (reply_fits (entry_of image t) b _ few (omega (arith, small)) a.entry fits) x.fits.bodies;
      deed = (a.entry, a.output);
    }
turn_by image h (Faults cause) i x some is = record {
  kernel = stopped_fits (now image h).kernel true x.fits.kernel;
  bodies = x.fits.bodies;
  deed = tt;
}

turn_is : (image : ImageView) (h : History) → (running_at image h == nobody) ≡ false → turned image h ≡ next_moment image h ∷ h
turn_is image h somebody = rw somebody refl

turned_wide : (image : ImageView) (h : History) → IsImage image → IsWide image h → IsWide image (turned image h)
turned_wide image h i x =
    let good : IsGoodRun image (turned image h) = turned_good image h i x.good in
    let have : HaveBodies image (turned image h) = turned_bodies image h i x.have in
    elim (cases_Bool (running_at image h == nobody)) [
      | inl e ↦ rw e x
      | inr e ↦
          let is : turned image h ≡ next_moment image h ∷ h = turn_is image h e in
          let after : IsGoodRun image (next_moment image h ∷ h) = subst (IsGoodRun image) is good in
          let bodies : HaveBodies image (next_moment image h ∷ h) = subst (HaveBodies image) is have in
          subst (IsWide image) (sym is) (record {
            good = after;
            have = bodies;
            fits = fits_on image (next_moment image h) h i x after bodies (turn_by image h _ i x (eqb-false _ _ e) refl);
          })
    ]

-- an arrival
arrival_fits : (image : ImageView) (h : History) (mask : ℕ) (ports : List ℕ) → All IsWord ports → IsWide image h → FitsMoment (arrival (now image h) mask ports)
arrival_fits image h mask ports words x = record {
  kernel = rescheduled_fits _ (arrived_fits (now image h).kernel mask ports words x.fits.kernel);
  bodies = x.fits.bodies;
  deed = tt;
}

arrival_is : (image : ImageView) (mask : ℕ) (ports : List ℕ) (h : History) → ((now image h).kernel.ended == 0) ≡ true →
    arrives image mask ports h ≡ arrival (now image h) mask ports ∷ h
arrival_is image mask ports h goes = rw goes refl

arrives_wide : (image : ImageView) (mask : ℕ) (ports : List ℕ) (h : History) → IsImage image → All IsWord ports → IsWide image h →
    IsWide image (arrives image mask ports h)
arrives_wide image mask ports h i words x =
    let good : IsGoodRun image (arrives image mask ports h) = arrives_good image h mask ports i x.good in
    let have : HaveBodies image (arrives image mask ports h) = arrives_bodies image mask ports h x.have in
    elim (cases_Bool ((now image h).kernel.ended == 0)) [
      | inl e ↦
          let m : Moment = arrival (now image h) mask ports in
          let is : arrives image mask ports h ≡ m ∷ h = arrival_is image mask ports h e in
          let after : IsGoodRun image (m ∷ h) = subst (IsGoodRun image) is good in
          let bodies : HaveBodies image (m ∷ h) = subst (HaveBodies image) is have in
          subst (IsWide image) (sym is) (record {
            good = after;
            have = bodies;
            fits = fits_on image m h i x after bodies (arrival_fits image h mask ports words x);
          })
      | inr e ↦ rw e x
    ]

turns_wide : (image : ImageView) (n : ℕ) (h : History) → IsImage image → IsWide image h → IsWide image (turns image n h)
unfolding turns
turns_wide image zero h i x = x
turns_wide image (suc n) h i x = turned_wide image (turns image n h) i (turns_wide image n h i x)

played_wide : (image : ImageView) (script : List Slice) (h : History) → IsImage image → All FitsSlice script → IsWide image h →
    IsWide image (played image h script)
played_wide image [] h i ports x = x
played_wide image (s ∷ ss) h i ports x =
    played_wide image ss (sliced image h s) i (All-tail FitsSlice s ss ports)
    (turns_wide image s.length (arrives image s.mask s.ports h) i (arrives_wide image s.mask s.ports h i (All-head FitsSlice s ss ports) x))

-- boot
boot_wide : (image : ImageView) → IsImage image → FitsImage image → IsWide image []
boot_wide image i f =
    let bodies : All FitsBody (now image []).bodies =
    All-map FitsBody _ image.loads (λ k d below. boot_fits _ _ (i.each k d below).few_words (f.words k d below)) in
    let have : HaveBodies image [] = boot_bodies image i in
    let good : IsGoodRun image [] = boot_good image i in
    record {
      good = good;
      have = have;
      fits = record {
        kernel = booted_fits image.spec f.lines f.alarms;
        bodies = bodies;
        entries = λ t. subst (All FitsData) (sym (no_entries t)) (All-nil FitsData);
        outputs = subst (All FitsOutput) (sym no_outputs) (All-nil FitsOutput);
        checks = λ t below. subst (All FitsCheckpoint) (sym (checks_boot image t))
            (All-cons FitsCheckpoint _ [] (check_fits image t [] _ i good.run below bodies refl) (All-nil FitsCheckpoint));
        sized = λ t below. subst (All (IsSized image t)) (sym (checks_boot image t))
            (All-cons (IsSized image t) _ [] (have.each t below).words (All-nil (IsSized image t)));
        controls = λ few. subst (All FitsSwitch) (sym (no_controls image)) (All-nil FitsSwitch);
      };
    }

pub run_wide : (image : ImageView) (script : List Slice) → IsImage image → FitsImage image → All FitsSlice script → IsWide image (run image script)
run_wide image script i f ports = played_wide image script [] i ports (boot_wide image i f)
