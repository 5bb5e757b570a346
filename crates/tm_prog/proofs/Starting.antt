-- Where a machine and a teller stand at the start, and what the text is at the end.
use Rattle.std.proofs.Common.{◌≡◌, ◌≢◌, ℕ, ◌<◌, ◌≤◌, ◌==◌, if◌then◌else◌, List, [], ◌++◌, length, refl, ap, sym, ◌∙◌, arith, Some, slice_get, unwrap_or, inl, inr}
use Rattle.std.specs.Prelude.{flat_map}
use Rattle.std.proofs.lemmas.Bool.{cases_Bool, eqb-true, ne_eqb}
use Rattle.std.proofs.lemmas.List.{append-nil}
use Rattle.tm_marker.specs.declared.entries.OutputEntry.{OutputEntry}
use Rattle.tm_kernel.specs.State.{nobody}
use Rattle.tm_spelling.specs.Story.{View, Last, start_text, block_text, end_text, spelled}
use Rattle.tm_image.specs.Image.{ImageView}
use Rattle.tm_system.specs.History.{History}
use Rattle.tm_system.specs.Run.{now, running_at, body_at}
use Rattle.tm_system.specs.Controls.{controls}
use Rattle.tm_system.specs.Telling.{below, number_of, start_at, last_at, printed, pending, blocks, story}
use Rattle.tm_system.specs.Machine.{MachineView, IsAt}
use Rattle.tm_system.proofs.Below.{length-below, below_same, slice_get-below}
use Rattle.tm_prog.specs.Teller.{TellerView, Tells, HasTold, TellsStart, start_by, start_in, view_in, words_in, last_in}
use Rattle.tm_system.specs.Hearing.{StandAt}
use Rattle.tm_prog.proofs.Noting.{view_at_is, words_at_is}
use Rattle.tm_prog.proofs.TellerSteps.{end_told}

below_nobody : (image : ImageView) (t : ℕ) → length image.loads ≤ 16 → t < length image.loads → t ≢ nobody
below_nobody image t few there q = (let big : nobody < 16 = omega (arith, there, few, q) in absurd (omega arith))

start_view : (image : ImageView) (machine : MachineView) (t : ℕ) → length image.loads ≤ 16 → IsAt image machine [] → t < length image.loads →
    start_in machine t ≡ start_at image [] t
start_view image machine t few at there =
    ap (start_by t) (at.each t there) ∙ rw (ne_eqb t nobody (below_nobody image t few there)) refl

no_blocks : (image : ImageView) → blocks image 0 [] ≡ []
unfolding blocks
no_blocks image = refl

no_controls : (image : ImageView) → controls image [] ≡ []
unfolding controls
no_controls image = refl

nothing_pending : (image : ImageView) (t : ℕ) → pending image t [] ≡ []
unfolding pending
nothing_pending image t = refl

printed_at_boot : (image : ImageView) (t : ℕ) → printed image 0 t [] ≡ (body_at image [] t).words
unfolding printed
printed_at_boot image t = refl

pub start_told : (image : ImageView) (machine : MachineView) (teller : TellerView) → length image.loads ≤ 16 → IsAt image machine [] →
    TellsStart machine teller → Tells image teller []
start_told image machine teller few at s =
    let starts : below (length machine.tasks) (start_in machine) ≡ below (length image.loads) (start_at image []) =
    ap (λ n. below n (start_in machine)) at.tasks ∙
    below_same (length image.loads) (start_in machine) (start_at image []) (λ t there. start_view image machine t few at there) in
    record {
      text = s.text ∙ ap (λ vs. start_text 0 nobody vs) starts ∙ sym (append-nil _) ∙
          ap (λ bs. start_text 0 nobody (below (length image.loads) (start_at image [])) ++ flat_map block_text bs) (sym (no_blocks image));
      entries = s.entries ∙ ap length (sym (no_controls image));
      tasks = ap length s.printed ∙ length-below _ _ ∙ at.tasks;
      printed = λ t there.
          let there' : t < length machine.tasks = rw at.tasks there in
          ap (λ ps. slice_get ps t) s.printed ∙ slice_get-below (length machine.tasks) (words_in machine) t there' ∙
          ap Some (words_at_is image [] machine t at there ∙ sym (printed_at_boot image t));
      pending = s.pending ∙ sym (nothing_pending image (running_at image []));
    }

same_last : (s r : ℕ) (v w : View) (o p : List OutputEntry) → s ≡ r → v ≡ w → o ≡ p →
    (let l : Last = record { state = s; view = v; outputs = o } in l) ≡ record { state = r; view = w; outputs = p }
same_last s r v w o p d e f = cc

last_view : (image : ImageView) (h : History) (machine : MachineView) (teller : TellerView) (t : ℕ) → length image.loads ≤ 16 →
    StandAt HasTold image machine teller h → t < length image.loads → last_in machine teller.printed teller.pending t ≡ last_at image 0 h t
last_view image h machine teller t few tr there =
    same_last _ _ _ _ _ _
    (ap (λ k. number_of (slice_get k.states t)) tr.at.kernel)
    (ap (λ b. view_in machine t b) (ap (λ o. unwrap_or o []) (tr.stood.printed t there)) ∙
    view_at_is image h machine t (printed image 0 t h) tr.at there (below_nobody image t few there))
    (ap (λ k. if t == k.running then teller.pending else []) tr.at.kernel ∙
    elim (cases_Bool (t == running_at image h)) [
      | inl e ↦ rw e (tr.stood.pending ∙ ap (λ r. pending image r h) (sym (eqb-true t (running_at image h) e)))
      | inr e ↦ rw e refl
    ])

pub end_traced : (image : ImageView) (h : History) (machine : MachineView) (teller : TellerView) → length image.loads ≤ 16 →
    StandAt HasTold image machine teller h →
    teller.text ++ end_text machine.kernel.running machine.kernel.ended (below (length machine.tasks) (last_in machine teller.printed teller.pending)) ≡
    spelled (story image 0 h)
end_traced image h machine teller few tr =
    let lasts : below (length machine.tasks) (last_in machine teller.printed teller.pending) ≡ below (length image.loads) (last_at image 0 h) =
    ap (λ n. below n (last_in machine teller.printed teller.pending)) tr.at.tasks ∙
    below_same (length image.loads) _ _ (λ t there. last_view image h machine teller t few tr there) in
    ap (λ k. teller.text ++ end_text k.running k.ended (below (length machine.tasks) (last_in machine teller.printed teller.pending))) tr.at.kernel ∙
    ap (λ ls. teller.text ++ end_text (running_at image h) (now image h).kernel.ended ls) lasts ∙
    end_told image h teller tr.stood
