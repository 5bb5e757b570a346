-- The outputs of a run after a point are those that its text from the point shows, in the same order.
use Rattle.std.proofs.Common.{◌≡◌, ℕ, zero, suc, ◌<◌, ◌≤◌, Bool, true, false, ◌==◌, if◌then◌else◌, ◌⊎◌, List, [], ◌∷◌, ◌++◌, length, map, refl, ap, sym, ◌∙◌, arith, inl, inr, Some, None, append-nil, append_assoc}
use Rattle.std.specs.Prelude.{flat_map, option_to_list}
use Rattle.std.proofs.lemmas.Bool.{cases_Bool, cases_eq, cases_lt, eq-eqb, ne_eqb}
use Rattle.std.proofs.lemmas.List.{map-append}
use Rattle.std.proofs.lemmas.Grind.{flat_map-append}
use Rattle.tm_marker.specs.declared.entries.OutputEntry.{OutputEntry}
use Rattle.tm_kernel.specs.State.{nobody}
use Rattle.tm_spelling.specs.Story.{View, Leave, Block, Last}
use Rattle.tm_image.specs.Image.{ImageView, IsImage}
use Rattle.tm_system.specs.History.{Deed, Arrives, Steps, Answers, Faulted, Moment, History}
use Rattle.tm_system.specs.Run.{running_at}
use Rattle.tm_system.specs.Controls.{controls, is_switch, outputs, output_of}
use Rattle.tm_system.specs.Telling.{upto, made, pending, leave_at, block_at, blocks, below, last_at, story}
use Rattle.tm_system.specs.Follows.{Follows, DidDeed, IsRun, Boots, GoesOn}
use Rattle.tm_system.proofs.Texts.{pending_more, pending_none}
use Rattle.tm_system.specs.Replaying.{Shown, shown_with, shown_left, shown_under, shown_last, shown_in}
use Rattle.tm_fidelity.proofs.Still.{runs_on, not_nobody}
use Rattle.tm_fidelity.proofs.Upto.{upto_before, upto_here, boot_upto, here}
use Rattle.tm_fidelity.proofs.Tracks.{left_of}
use Rattle.tm_fidelity.proofs.Blocks.{blocks_stay, blocks_more, blocks_before, boot_blocks, no_blocks}

-- the outputs that are shown
abbrev pub outputs_in : List Shown → List OutputEntry
outputs_in shown = map (λ s. s.output) shown

shown_outputs : (seq : ℕ) (view : View) (os : List OutputEntry) → outputs_in (shown_with seq view os) ≡ os
shown_outputs seq view [] = refl
shown_outputs seq view (o ∷ os) = ap (λ l. o ∷ l) (shown_outputs seq view os)

-- those of one more item
flat_more : {X : Type 0} (f : X → List Shown) (xs : List X) (x : X) →
    outputs_in (flat_map f (xs ++ x ∷ [])) ≡ outputs_in (flat_map f xs) ++ outputs_in (f x)
flat_more f xs x =
    ap outputs_in (flat_map-append f xs (x ∷ []) ∙ ap (λ l. flat_map f xs ++ l) (append-nil (f x)))
    ∙ map-append (λ (s : Shown). s.output) (flat_map f xs) (f x)

-- what the running task makes at a moment is what the moment makes
made_by : (image : ImageView) (h : History) (m : Moment) (d : Deed) → DidDeed image h m d →
    option_to_list (output_of d) ≡ made (running_at image h) d
made_by image h m (Arrives mask ports) did = refl
made_by image h m (Steps task back) did = refl
made_by image h m (Answers task entry output) did = rw (eq-eqb task (running_at image h) (sym did.turn.runs)) refl
made_by image h m (Faulted task cause) did = refl

outputs_more : (image : ImageView) (h : History) (m : Moment) → Follows image h m → outputs (m ∷ h) ≡ outputs h ++ made (running_at image h) m.deed
unfolding outputs
outputs_more image h m f = ap (λ l. outputs h ++ l) (made_by image h m m.deed f.did)

-- nobody makes an output
nobody_made : (image : ImageView) (h : History) (m : Moment) (d : Deed) → IsImage image → DidDeed image h m d → made nobody d ≡ []
nobody_made image h m (Arrives mask ports) i did = refl
nobody_made image h m (Steps task back) i did = refl
nobody_made image h m (Answers task entry output) i did = rw (ne_eqb task nobody (not_nobody image task i did.turn.there)) refl
nobody_made image h m (Faulted task cause) i did = refl

pub boot_pending : (image : ImageView) (t : ℕ) → pending image t [] ≡ []
unfolding pending
boot_pending image t = refl

nobody_pending : (image : ImageView) (h : History) → IsImage image → IsRun image h → pending image nobody h ≡ []
nobody_pending image [] i Boots = boot_pending image nobody
nobody_pending image (m ∷ h) i (GoesOn r f) = elim (cases_Bool (is_switch image m h)) [
  | inl e ↦ pending_none image nobody m h e
  | inr e ↦ pending_more image nobody m h e ∙ ap (λ l. l ++ made nobody m.deed) (nobody_pending image h i r) ∙ nobody_made image h m m.deed i f.did
]

-- how a task leaves
left_shown : (none : Bool) (seq : ℕ) (l : Leave) → none ≡ false → outputs_in (shown_left seq (if none then None else Some l)) ≡ l.outputs
left_shown none seq l e = rw e (shown_outputs seq l.view l.outputs)

-- what is shown with a control entry is what was made since the one before
left_outputs : (image : ImageView) (p seq : ℕ) (m : Moment) (h : History) → IsImage image → IsRun image h → Follows image h m →
    outputs_in (shown_left seq (leave_at image p m h)) ≡ pending image (running_at image h) h ++ made (running_at image h) m.deed
left_outputs image p seq m h i r f = elim (cases_eq (running_at image h) nobody) [
  | inl none ↦
      rw (eq-eqb (running_at image h) nobody none) (sym (
      ap (λ t. pending image t h ++ made t m.deed) none ∙ ap (λ l. l ++ made nobody m.deed) (nobody_pending image h i r)
      ∙ nobody_made image h m m.deed i f.did))
  | inr some ↦ left_shown (running_at image h == nobody) seq (left_of image p m h) (ne_eqb (running_at image h) nobody some)
]

-- lists, regrouped
joined : (o u p m : List OutputEntry) → (o ++ (u ++ p)) ++ m ≡ o ++ (u ++ (p ++ m))
joined o u p m = append_assoc o (u ++ p) m ∙ ap (λ l. o ++ l) (append_assoc u p m)

joined_nil : (o u p m : List OutputEntry) → (o ++ (u ++ p)) ++ m ≡ o ++ ((u ++ (p ++ m)) ++ [])
joined_nil o u p m = joined o u p m ∙ ap (λ l. o ++ l) (sym (append-nil (u ++ (p ++ m))))

-- the outputs that the text from a point shows before the end
abbrev shown_blocks : ImageView → ℕ → History → List OutputEntry
shown_blocks image p h = outputs_in (shown_under (blocks image p h))

blocks_shown : (image : ImageView) (p : ℕ) (m : Moment) (h : History) → IsImage image → IsRun image h → Follows image h m →
    is_switch image m h ≡ true → p ≤ length (controls image h) →
    shown_blocks image p (m ∷ h) ≡ shown_blocks image p h ++ (pending image (running_at image h) h ++ made (running_at image h) m.deed)
blocks_shown image p m h i r f e before =
    ap (λ bs. outputs_in (shown_under bs)) (blocks_more image p m h e before)
    ∙ flat_more (λ (b : Block). shown_left b.seq b.leave) (blocks image p h) (block_at image p m h)
    ∙ ap (λ l. shown_blocks image p h ++ l) (left_outputs image p (length (controls image (m ∷ h))) m h i r f)

boot_outputs : outputs [] ≡ []
unfolding outputs
boot_outputs = refl

-- the outputs are those up to the point, those shown with the control entries after it, and those since
pub outputs_since : (image : ImageView) (p : ℕ) (h : History) → IsImage image → IsRun image h → p ≤ length (controls image h) →
    outputs h ≡ outputs (upto image p h) ++ (shown_blocks image p h ++ pending image (running_at image h) h)
outputs_since image p [] i Boots reached =
    boot_outputs
    ∙ sym (ap (λ (g : History). outputs g ++ (shown_blocks image p [] ++ pending image (running_at image []) [])) (boot_upto image p)
    ∙ ap (λ l. l ++ (shown_blocks image p [] ++ pending image (running_at image []) [])) boot_outputs
    ∙ ap (λ bs. outputs_in (shown_under bs) ++ pending image (running_at image []) []) (boot_blocks image p)
    ∙ boot_pending image (running_at image []))
outputs_since image p (m ∷ h) i (GoesOn r f) reached = elim (cases_lt (length (controls image h)) p) [
  | inl later ↦
      let own = here image p m h later reached in
      sym (ap (λ (g : History). outputs g ++ (shown_blocks image p (m ∷ h) ++ pending image (running_at image (m ∷ h)) (m ∷ h))) (upto_here image p m h later)
      ∙ ap (λ bs. outputs (m ∷ h) ++ (outputs_in (shown_under bs) ++ pending image (running_at image (m ∷ h)) (m ∷ h)))
      (blocks_before image p m h later ∙ no_blocks image p h later)
      ∙ ap (λ l. outputs (m ∷ h) ++ l) (pending_none image (running_at image (m ∷ h)) m h own.switch)
      ∙ append-nil (outputs (m ∷ h)))
  | inr before ↦
      let first : outputs (m ∷ h) ≡
      (outputs (upto image p h) ++ (shown_blocks image p h ++ pending image (running_at image h) h)) ++ made (running_at image h) m.deed =
      outputs_more image h m f ∙ ap (λ l. l ++ made (running_at image h) m.deed) (outputs_since image p h i r before) in
      let point = upto_before image p m h before in
      elim (cases_Bool (is_switch image m h)) [
        | inl e ↦
            first ∙ joined_nil (outputs (upto image p h)) (shown_blocks image p h) (pending image (running_at image h) h) (made (running_at image h) m.deed)
            ∙ sym (ap (λ (g : History). outputs g ++ (shown_blocks image p (m ∷ h) ++ pending image (running_at image (m ∷ h)) (m ∷ h))) point
            ∙ ap (λ l. outputs (upto image p h) ++ (l ++ pending image (running_at image (m ∷ h)) (m ∷ h))) (blocks_shown image p m h i r f e before)
            ∙ ap (λ l. outputs (upto image p h) ++ ((shown_blocks image p h ++ (pending image (running_at image h) h ++ made (running_at image h) m.deed)) ++ l))
            (pending_none image (running_at image (m ∷ h)) m h e))
        | inr e ↦
            first ∙ joined (outputs (upto image p h)) (shown_blocks image p h) (pending image (running_at image h) h) (made (running_at image h) m.deed)
            ∙ sym (ap (λ (g : History). outputs g ++ (shown_blocks image p (m ∷ h) ++ pending image (running_at image (m ∷ h)) (m ∷ h))) point
            ∙ ap (λ bs. outputs (upto image p h) ++ (outputs_in (shown_under bs) ++ pending image (running_at image (m ∷ h)) (m ∷ h))) (blocks_stay image p m h e)
            ∙ ap (λ (t : ℕ). outputs (upto image p h) ++ (shown_blocks image p h ++ pending image t (m ∷ h))) (runs_on image h m e)
            ∙ ap (λ l. outputs (upto image p h) ++ (shown_blocks image p h ++ l)) (pending_more image (running_at image h) m h e))
      ]
]

-- what is shown at the end
last_outputs : (image : ImageView) (p seq : ℕ) (h : History) (t : ℕ) → (t == running_at image h) ≡ false →
    outputs_in (shown_with seq (last_at image p h t).view (last_at image p h t).outputs) ≡ []
last_outputs image p seq h t other = rw other refl

abbrev shown_ends : ImageView → ℕ → ℕ → History → ℕ → List OutputEntry
shown_ends image p seq h n = outputs_in (shown_last seq (below n (last_at image p h)))

ends_more : (image : ImageView) (p seq : ℕ) (h : History) (n : ℕ) → shown_ends image p seq h (suc n) ≡
    shown_ends image p seq h n ++ (last_at image p h n).outputs
ends_more image p seq h n =
    flat_more (λ (l : Last). shown_with seq l.view l.outputs) (below n (last_at image p h)) (last_at image p h n)
    ∙ ap (λ l. shown_ends image p seq h n ++ l) (shown_outputs seq (last_at image p h n).view (last_at image p h n).outputs)

none_before : (image : ImageView) (p seq : ℕ) (h : History) (n : ℕ) → n ≤ running_at image h → shown_ends image p seq h n ≡ []
none_before image p seq h zero before = refl
none_before image p seq h (suc n) before =
    let other : (n == running_at image h) ≡ false = ne_eqb n (running_at image h) (λ e. (let bad : n < n = omega (arith, before, e) in absurd (omega arith))) in
    ends_more image p seq h n ∙ ap (λ l. l ++ (last_at image p h n).outputs) (none_before image p seq h n (omega (arith, before)))
    ∙ rw other refl

ends_shown : (image : ImageView) (p seq : ℕ) (h : History) (n : ℕ) → running_at image h < n →
    shown_ends image p seq h n ≡ pending image (running_at image h) h
ends_shown image p seq h zero there = absurd (omega arith)
ends_shown image p seq h (suc n) there = elim (cases_eq n (running_at image h)) [
  | inl e ↦
      ends_more image p seq h n ∙ ap (λ l. l ++ (last_at image p h n).outputs) (none_before image p seq h n (omega (arith, e)))
      ∙ rw (eq-eqb n (running_at image h) e) (ap (λ (t : ℕ). pending image t h) e)
  | inr other ↦
      ends_more image p seq h n ∙ ap (λ l. l ++ (last_at image p h n).outputs) (ends_shown image p seq h n (omega (arith, there, other)))
      ∙ rw (ne_eqb n (running_at image h) other) (append-nil (pending image (running_at image h) h))
]

pub running_there : (image : ImageView) (h : History) → IsRun image h → (running_at image h ≡ nobody) ⊎ (running_at image h < length image.loads)
running_there image [] Boots = inl refl
running_there image (m ∷ h) (GoesOn r f) = f.runs

all_ends : (image : ImageView) (p seq : ℕ) (h : History) → IsImage image → IsRun image h →
    shown_ends image p seq h (length image.loads) ≡ pending image (running_at image h) h
all_ends image p seq h i r = elim (running_there image h r) [
  | inl none ↦
      none_before image p seq h (length image.loads) (omega (arith, none, i.loads, i.spec.few_tasks))
      ∙ sym (ap (λ (t : ℕ). pending image t h) none ∙ nobody_pending image h i r)
  | inr there ↦ ends_shown image p seq h (length image.loads) there
]

-- the outputs of a run are those up to the point and those that the text from it shows
pub outputs_shown : (image : ImageView) (p seq : ℕ) (h : History) → IsImage image → IsRun image h → p ≤ length (controls image h) →
    outputs h ≡ outputs (upto image p h) ++ outputs_in (shown_in seq (story image p h))
outputs_shown image p seq h i r reached =
    outputs_since image p h i r reached
    ∙ ap (λ l. outputs (upto image p h) ++ (shown_blocks image p h ++ l)) (sym (all_ends image p seq h i r))
    ∙ ap (λ l. outputs (upto image p h) ++ l) (sym (map-append (λ (s : Shown). s.output) (shown_under (blocks image p h))
    (shown_last seq (below (length image.loads) (last_at image p h)))))
