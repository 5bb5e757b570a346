-- A teller that stands where a history does goes on with the next moment.
use Rattle.std.proofs.Common.{◌≡◌, ◌≢◌, ℕ, ◌+◌, ◌<◌, ◌≤◌, Bool, true, false, ◌==◌, if◌then◌else◌, List, [], ◌∷◌, ◌++◌, length, refl, ap, sym, ◌∙◌, subst, arith, length-append, Option, Some, None, slice_get, length-set, unwrap_or, inl, inr}
use Rattle.std.specs.Prelude.{option_to_list}
use Rattle.std.proofs.lemmas.Bool.{cases_Bool, eqb-false, eq-eqb, ne_eqb}
use Rattle.tm_marker.specs.declared.body.Body.{Body}
use Rattle.tm_marker.specs.declared.entries.OutputEntry.{OutputEntry}
use Rattle.tm_marker.specs.declared.entries.Switch.{Switch}
use Rattle.tm_task.specs.Exec.{Exec, Faults, Calls, Goes, exec}
use Rattle.tm_kernel.specs.State.{nobody}
use Rattle.tm_kernel.proofs.Keeping.{slice_get_set_same, slice_get_set_other}
use Rattle.tm_spelling.specs.Story.{View, Leave, Block, block_text}
use Rattle.tm_image.specs.Image.{ImageView, entry_of, text_of}
use Rattle.tm_system.specs.History.{Whole, Moment, History}
use Rattle.tm_system.specs.Run.{now, running_at, body_at, moment_by, next_moment}
use Rattle.tm_system.specs.Controls.{is_switch, switch_at, controls, output_of}
use Rattle.tm_system.specs.Telling.{made, pending, printed, view_at, leave_at, cause_of}
use Rattle.tm_system.specs.Machine.{MachineView, IsAt, told_of}
use Rattle.tm_system.specs.Parts.{IsTaskOrNobody}
use Rattle.tm_system.proofs.Texts.{controls_more}
use Rattle.tm_prog.specs.Teller.{TellerView, Tells, view_by, view_in, words_in, printed_by, leave_in, printed_after, with_switch, waiting, with_switch_in, after_telling}
use Rattle.tm_prog.proofs.TellerSteps.{TellsEntry, quiet_told, entry_told}

-- the outputs of a moment are the running task's
abbrev pub IsOwn : ImageView → History → Moment → Type 0
IsOwn image h m = made (running_at image h) m.deed ≡ option_to_list (output_of m.deed)

own_by : (entry : ℕ) (w : Whole) (task : ℕ) (b : Body) (e : Exec) →
    made task (moment_by entry w task b e).deed ≡ option_to_list (output_of (moment_by entry w task b e).deed)
own_by entry w task b (Goes next back) = refl
own_by entry w task b (Calls service) = rw (eq-eqb task task refl) refl
own_by entry w task b (Faults cause) = refl

pub next_own : (image : ImageView) (h : History) → IsOwn image h (next_moment image h)
next_own image h =
    let task : ℕ = running_at image h in
    own_by (entry_of image task) (now image h) task (body_at image h task) (exec (text_of image task) (body_at image h task))

-- a task of the machine is seen as the run has it
pub view_at_is : (image : ImageView) (h : History) (machine : MachineView) (task : ℕ) (before : List ℕ) → IsAt image machine h →
    task < length image.loads → task ≢ nobody → view_in machine task before ≡ view_at image h task before
view_at_is image h machine task before at there somebody =
    ap (view_by task before) (at.each task there) ∙ rw (ne_eqb task nobody somebody) refl

pub words_at_is : (image : ImageView) (h : History) (machine : MachineView) (task : ℕ) → IsAt image machine h →
    task < length image.loads → words_in machine task ≡ (body_at image h task).words
words_at_is image h machine task at there = rw (at.each task there) refl

same_leave : (cause : ℕ) (v w : View) (o p : List OutputEntry) → v ≡ w → o ≡ p →
    (let l : Leave = record { cause = cause; view = v; outputs = o } in l) ≡ record { cause = cause; view = w; outputs = p }
same_leave cause v w o p e f = cc

pub is_there : (n r : ℕ) → IsTaskOrNobody n r → r ≢ nobody → r < n
is_there n r whose somebody = elim whose [ inl e ↦ absurd (somebody e) | inr lt ↦ lt ]

-- how the running task left is told as the run has it
leave_told : (image : ImageView) (m : Moment) (h : History) (machine : MachineView) (old : TellerView) →
    IsAt image machine (m ∷ h) → Tells image old h → IsOwn image h m → IsTaskOrNobody (length image.loads) (running_at image h) →
    leave_in machine (waiting old (output_of m.deed)) (running_at image h) (cause_of m.deed) ≡ leave_at image 0 m h
leave_told image m h machine old at s own whose =
    elim (cases_Bool (running_at image h == nobody)) [
      | inl e ↦ rw e refl
      | inr e ↦
          let r : ℕ = running_at image h in
          let there : r < length image.loads = is_there (length image.loads) r whose (eqb-false r nobody e) in
          let before : printed_by old.printed r ≡ printed image 0 r h = ap (λ o. unwrap_or o []) (s.printed r there) in
          rw e (ap Some (same_leave (cause_of m.deed) _ _ _ _
          (ap (λ b. view_in machine r b) before ∙ ap (λ o. view_by r (printed image 0 r h) o) (at.each r there))
          (ap (λ p. p ++ option_to_list (output_of m.deed)) s.pending ∙ ap (λ o. pending image r h ++ o) (sym own))))
    ]

same_block : (i j : ℕ) (switch : Switch) (l k : Option Leave) → i ≡ j → l ≡ k →
    (let b : Block = record { seq = i; switch = switch; leave = l } in b) ≡ record { seq = j; switch = switch; leave = k }
same_block i j switch l k e f = cc

-- the words printed last, after a control entry from a task or from nobody
length-printed_after : (machine : MachineView) (old : TellerView) (from : ℕ) → length (printed_after machine old from) ≡ length old.printed
length-printed_after machine old from =
    elim (cases_Bool (from == nobody)) [ inl e ↦ rw e refl | inr e ↦ rw e (length-set old.printed from (words_in machine from)) ]

printed_after_other : (machine : MachineView) (old : TellerView) (from task : ℕ) → task ≢ from →
    slice_get (printed_after machine old from) task ≡ slice_get old.printed task
printed_after_other machine old from task other =
    elim (cases_Bool (from == nobody)) [
      | inl e ↦ rw e refl
      | inr e ↦ rw e (slice_get_set_other old.printed from task (words_in machine from) other)
    ]

printed_after_own : (machine : MachineView) (old : TellerView) (from : ℕ) → from ≢ nobody → from < length old.printed →
    slice_get (printed_after machine old from) from ≡ Some (words_in machine from)
printed_after_own machine old from somebody there =
    rw (ne_eqb from nobody somebody) (slice_get_set_same old.printed from (words_in machine from) there)

-- what was told of a control entry is its block
switch_told : (image : ImageView) (m : Moment) (h : History) (machine : MachineView) (old : TellerView) →
    length image.loads ≤ 16 → IsAt image machine (m ∷ h) → Tells image old h → IsOwn image h m →
    IsTaskOrNobody (length image.loads) (running_at image h) → is_switch image m h ≡ true →
    TellsEntry image m h old (with_switch machine (switch_at image m h) (cause_of m.deed) (waiting old (output_of m.deed)))
switch_told image m h machine old few at s own whose e =
    let r : ℕ = running_at image h in
    let seq : old.entries + 1 ≡ length (controls image (m ∷ h)) =
    omega (arith, s.entries, ap length (controls_more image m h e), length-append (controls image h) (switch_at image m h ∷ [])) in
    record {
      text = ap (λ b. old.text ++ block_text b)
          (same_block _ _ (switch_at image m h) _ _ seq (leave_told image m h machine old at s own whose));
      entries = refl;
      tasks = length-printed_after machine (waiting old (output_of m.deed)) r;
      others = λ task other. printed_after_other machine (waiting old (output_of m.deed)) r task other;
      own = λ there.
          let somebody : r ≢ nobody = λ q. (let big : nobody < 16 = omega (arith, there, few, q) in absurd (omega arith)) in
          let within : r < length old.printed = rw s.tasks there in
          printed_after_own machine (waiting old (output_of m.deed)) r somebody within ∙
          ap Some (words_at_is image (m ∷ h) machine r at there);
      pending = refl;
    }

-- a moment is noted
pub noted : (image : ImageView) (m : Moment) (h : History) (machine : MachineView) (task : ℕ) (old : TellerView) →
    length image.loads ≤ 16 → IsAt image machine (m ∷ h) → Tells image old h → IsOwn image h m → IsTaskOrNobody (length image.loads) (running_at image h) →
    Tells image (after_telling machine task (told_of image m h) old) (m ∷ h)
noted image m h machine task old few at s own whose = go (is_switch image m h) refl
  where
    go : (b : Bool) → is_switch image m h ≡ b → Tells image (after_telling machine task (told_of image m h) old) (m ∷ h)
    go true e = entry_told image m h old (after_telling machine task (told_of image m h) old) s e
        (subst (λ b. TellsEntry image m h old
        (with_switch_in machine (if b then Some (switch_at image m h) else None) (cause_of m.deed) (waiting old (output_of m.deed)))) (sym e)
        (switch_told image m h machine old few at s own whose e))
    go false e = quiet_told image m h old (after_telling machine task (told_of image m h) old) s e
        (ap (λ b. with_switch_in machine (if b then Some (switch_at image m h) else None) (cause_of m.deed) (waiting old (output_of m.deed))) e ∙
        ap (λ o. (let t : TellerView = record old { pending = old.pending ++ o } in t)) (sym own))
