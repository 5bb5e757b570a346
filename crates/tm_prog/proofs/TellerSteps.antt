-- How the teller goes on by one moment.
use Rattle.std.proofs.Common.{◌≡◌, ◌≢◌, ℕ, ◌+◌, ◌<◌, Bool, true, false, not, ◌||◌, ◌==◌, List, [], ◌∷◌, ◌++◌, length, refl, ap, sym, ◌∙◌, subst, arith, length-append, append_assoc, Some, is_some, slice_get, flat_map, inl, inr}
use Rattle.std.proofs.lemmas.List.{append-nil}
use Rattle.std.proofs.lemmas.Bool.{cases_Bool, eqb-true, eqb-false, eq-eqb}
use Rattle.tm_kernel.specs.State.{nobody}
use Rattle.tm_spelling.specs.Story.{Block, start_text, block_text, end_text, spelled}
use Rattle.tm_image.specs.Image.{ImageView}
use Rattle.tm_system.specs.History.{Moment, History}
use Rattle.tm_system.specs.Run.{now, running_at, body_at}
use Rattle.tm_system.specs.Controls.{is_switch, switch_at, controls}
use Rattle.tm_system.specs.Telling.{below, start_at, last_at, story, printed, made, pending, blocks, block_at}
use Rattle.tm_prog.specs.Teller.{TellerView, Tells}
use Rattle.tm_system.proofs.Texts.{upto_boot, controls_stay, controls_more, blocks_stay, blocks_more, printed_stop, printed_stay, pending_more, pending_none}

-- where a moment makes no control entry, the running task runs on
runs_on : (image : ImageView) (m : Moment) (h : History) → is_switch image m h ≡ false → m.after.kernel.running ≡ running_at image h
runs_on image m h e = sym (eqb-true _ _ (go (is_some m.leaves) (running_at image h == m.after.kernel.running) e))
  where
    go : (left same : Bool) → (left || not same) ≡ false → same ≡ true
    go true true p = refl
    go true false p = cc p
    go false true p = refl
    go false false p = cc p

-- a moment without a control entry: only the outputs that wait are more
pub quiet_told : (image : ImageView) (m : Moment) (h : History) (t u : TellerView) → Tells image t h → is_switch image m h ≡ false →
    u ≡ record t { pending = t.pending ++ made (running_at image h) m.deed } → Tells image u (m ∷ h)
quiet_told image m h t u s e is =
    let same = runs_on image m h e in
    subst (λ v. Tells image v (m ∷ h)) (sym is) record {
      text = s.text ∙ ap (λ bs. start_text 0 nobody (below (length image.loads) (start_at image [])) ++ flat_map block_text bs) (sym (blocks_stay image m h e));
      entries = s.entries ∙ ap length (sym (controls_stay image m h e));
      tasks = s.tasks;
      printed = λ task there. s.printed task there ∙ ap Some (sym (printed_stay image task m h (rw e refl)));
      pending = ap (λ p. p ++ made (running_at image h) m.deed) s.pending ∙ sym (pending_more image (running_at image h) m h e) ∙ ap (λ r. pending image r (m ∷ h)) (sym same);
    }

-- what a control entry makes of the teller
pub record TellsEntry (image : ImageView) (m : Moment) (h : History) (t u : TellerView) : Type 0 where
  pub text : u.text ≡ t.text ++ block_text (block_at image 0 m h)
  pub entries : u.entries ≡ t.entries + 1
  pub tasks : length u.printed ≡ length t.printed
  pub others : (task : ℕ) → task ≢ running_at image h → slice_get u.printed task ≡ slice_get t.printed task
  pub own : running_at image h < length image.loads → slice_get u.printed (running_at image h) ≡ Some (body_at image (m ∷ h) (running_at image h)).words
  pub pending : u.pending ≡ []

flat_map-append_one : (bs : List Block) (b : Block) → flat_map block_text (bs ++ b ∷ []) ≡ flat_map block_text bs ++ block_text b
flat_map-append_one [] b = append-nil (block_text b)
flat_map-append_one (c ∷ cs) b = ap (λ x. block_text c ++ x) (flat_map-append_one cs b) ∙ sym (append_assoc (block_text c) (flat_map block_text cs) (block_text b))

-- the text of one more control entry
text_more : (start : List ℕ) (bs cs : List Block) (b : Block) → cs ≡ bs ++ b ∷ [] →
    (start ++ flat_map block_text bs) ++ block_text b ≡ start ++ flat_map block_text cs
text_more start bs cs b is =
    append_assoc start (flat_map block_text bs) (block_text b) ∙
    ap (λ x. start ++ x) (sym (flat_map-append_one bs b) ∙ ap (flat_map block_text) (sym is))

pub entry_told : (image : ImageView) (m : Moment) (h : History) (t u : TellerView) → Tells image t h → is_switch image m h ≡ true →
    TellsEntry image m h t u → Tells image u (m ∷ h)
entry_told image m h t u s e n =
    let runs : ℕ = running_at image h in
    record {
      text = n.text ∙ ap (λ x. x ++ block_text (block_at image 0 m h)) s.text ∙ text_more _ (blocks image 0 h) _ (block_at image 0 m h) (blocks_more image m h e);
      entries = n.entries ∙ omega (arith, s.entries, ap length (controls_more image m h e), length-append (controls image h) (switch_at image m h ∷ []));
      tasks = n.tasks ∙ s.tasks;
      printed = λ task there. elim (cases_Bool (runs == task)) [
        | inl same ↦ (let is : runs ≡ task = eqb-true _ _ same in
            let own : runs < length image.loads = subst (λ k. k < length image.loads) (sym is) there in
            subst (λ k. slice_get u.printed k ≡ Some (printed image 0 k (m ∷ h))) is
            (n.own own ∙ ap Some (sym (printed_stop image runs m h (rw (e, eq-eqb runs runs refl) refl)))))
        | inr other ↦
            n.others task (λ q. eqb-false _ _ other (sym q)) ∙ s.printed task there ∙
            ap Some (sym (printed_stay image task m h (rw (e, other) refl)))
      ];
      pending = n.pending ∙ sym (pending_none image m.after.kernel.running m h e);
    }

-- the whole text
pub end_told : (image : ImageView) (h : History) (t : TellerView) → Tells image t h →
    t.text ++ end_text (running_at image h) (now image h).kernel.ended (below (length image.loads) (last_at image 0 h)) ≡ spelled (story image 0 h)
end_told image h t s = ap (λ x. x ++ end_text (running_at image h) (now image h).kernel.ended (below (length image.loads) (last_at image 0 h))) s.text ∙
    ap (λ g. (start_text 0 (running_at image g) (below (length image.loads) (start_at image g)) ++ flat_map block_text (blocks image 0 h)) ++
    end_text (running_at image h) (now image h).kernel.ended (below (length image.loads) (last_at image 0 h))) (sym (upto_boot image h))
