-- One moment of one task by itself: it stands still, or comes to its next place.
use Rattle.std.proofs.Common.{◌≡◌, ◌≢◌, ℕ, ◌+◌, ◌<◌, ◌≤◌, Bool, ◌⊎◌, List, [], ◌∷◌, ◌++◌, length, drop, refl, ap, sym, ◌∙◌, subst, arith, inl, inr, Option, Some, None, slice_get, unwrap_or, length-append, length-set, append-nil, Ok}
use Rattle.std.specs.Prelude.{option_to_list}
use Rattle.std.proofs.lemmas.Bool.{cases_eq, eq-eqb, ne_eqb}
use Rattle.std.proofs.lemmas.List.{drop-append-le, length-map}
use Rattle.tm_marker.specs.declared.body.Body.{Body}
use Rattle.tm_marker.specs.declared.entries.DataEntry.{DataEntry}
use Rattle.tm_marker.specs.declared.entries.OutputEntry.{OutputEntry}
use Rattle.tm_marker.specs.declared.entries.Kind.{Kind}
use Rattle.tm_kernel.proofs.Keeping.{slice_get_set_same, slice_get_set_other}
use Rattle.tm_task.specs.Standing.{Standing, IsTask, reply}
use Rattle.tm_task.specs.PlaceLaws.{standing_task}
use Rattle.tm_task.specs.Place.{Place}
use Rattle.tm_image.specs.Image.{ImageView, IsImage, entry_of, text_of}
use Rattle.tm_system.specs.History.{Deed, Arrives, Steps, Answers, Faulted, Whole, Moment, History}
use Rattle.tm_system.specs.Run.{now, running_at, body_at, no_body}
use Rattle.tm_system.specs.Marks.{standing_at, backs, epochs}
use Rattle.tm_system.specs.Controls.{entries, entries_of}
use Rattle.tm_system.specs.Telling.{made}
use Rattle.tm_system.specs.Follows.{Follows, DidDeed, IsStep, IsCall, IsRun, Boots, GoesOn}
use Rattle.tm_system.specs.Alone.{Alone, next_or_why}
use Rattle.tm_system.specs.ReplayLaws.{IsWalker}
use Rattle.tm_system.proofs.Walking.{next_ran, next_answered, walkers_stay}
use Rattle.tm_system.proofs.Marking.{rests_at, arrives_apart, steps_apart, answers_apart, faulted_apart, went_at, answered_at}
use Rattle.tm_system.proofs.Booting.{load_sound, body_booted}
use Rattle.tm_fidelity.proofs.Still.{stands_still}
use Rattle.tm_fidelity.proofs.Resting.{others_made}

-- a task of the image by itself, with data entries from a number on
abbrev pub alone_with : ImageView → ℕ → ℕ → ℕ → List DataEntry → Alone
alone_with image t first total log =
    record { task = t; entry = entry_of image t; text = text_of image t; log = log; first = first; total = total }

-- where a task is after the latest moment, by itself: with its data entries from a number on used
abbrev pub here : ImageView → ℕ → ℕ → History → List OutputEntry → Place
here image t first h outs =
    record { standing = standing_at image h t; used = length (drop first (entries t h)); made = outs }

pub entries_more : (t : ℕ) (m : Moment) (h : History) → entries t (m ∷ h) ≡ entries t h ++ entries_of t m.deed
unfolding entries
entries_more t m h = refl

pub no_entries : (t : ℕ) → entries t [] ≡ []
unfolding entries
no_entries t = refl

-- the entries from a number on, one moment on
pub log_more : (t first : ℕ) (m : Moment) (h : History) → first ≤ length (entries t h) →
    drop first (entries t (m ∷ h)) ≡ drop first (entries t h) ++ entries_of t m.deed
log_more t first m h few = ap (drop first) (entries_more t m h) ∙ drop-append-le first (entries t h) (entries_of t m.deed) few

-- a task that a moment leaves as it was
pub record StandsStill (image : ImageView) (t : ℕ) (m : Moment) (h : History) : Type 0 where
  pub standing : standing_at image (m ∷ h) t ≡ standing_at image h t
  pub entries : entries_of t m.deed ≡ []
  pub outputs : made t m.deed ≡ []

-- a task whose next place a moment comes to, with its data entries up to then, and any further ones
pub record Advances (image : ImageView) (t : ℕ) (m : Moment) (h : History) : Type 0 where
  pub next : (first total : ℕ) (more : List DataEntry) (outs : List OutputEntry) → first ≤ length (entries t h) →
      next_or_why (alone_with image t first total (drop first (entries t h) ++ (entries_of t m.deed ++ more))) (here image t first h outs)
      ≡ Ok (here image t first (m ∷ h) (outs ++ made t m.deed))

abbrev pub Moves : ImageView → ℕ → Moment → History → Type 0
Moves image t m h = StandsStill image t m h ⊎ Advances image t m h

-- every task of the image has a body
bodies_after : (image : ImageView) (h : History) (m : Moment) → length (now image h).bodies ≡ length image.loads →
    (d : Deed) → DidDeed image h m d → length m.after.bodies ≡ length image.loads
bodies_after image h m before (Arrives mask ports) did = ap length did.bodies ∙ before
bodies_after image h m before (Steps task back) did = ap length did.bodies ∙ length-set (now image h).bodies task _ ∙ before
bodies_after image h m before (Answers task entry output) did = ap length did.bodies ∙ length-set (now image h).bodies task _ ∙ before
bodies_after image h m before (Faulted task cause) did = ap length did.bodies ∙ before

pub bodies_there : (image : ImageView) (h : History) → IsRun image h → length (now image h).bodies ≡ length image.loads
bodies_there image [] Boots = length-map image.loads _
bodies_there image (m ∷ h) (GoesOn r f) = bodies_after image h m (bodies_there image h r) m.deed f.did

pub same_place : (s s' : Standing) (u u' : ℕ) (o o' : List OutputEntry) → s ≡ s' → u ≡ u' → o ≡ o' →
    (let p : Place = record { standing = s; used = u; made = o } in p) ≡ record { standing = s'; used = u'; made = o' }
same_place s s' u u' o o' p q r = cc

-- the entry after a list
pub there_after : {X : Type 0} (xs : List X) (x : X) (ys : List X) → slice_get (xs ++ x ∷ ys) (length xs) ≡ Some x
there_after [] x ys = refl
there_after (y ∷ xs) x ys = there_after xs x ys

-- an instruction that goes on, of this task
stepped : (image : ImageView) (t : ℕ) (back : Bool) (w : Whole) (h : History) →
    IsStep image h (record { deed = Steps t back; leaves = None; after = w }) t back →
    Advances image t (record { deed = Steps t back; leaves = None; after = w }) h
stepped image t back w h did = record {
  next = λ first total more outs few.
      (let m : Moment = record { deed = Steps t back; leaves = None; after = w } in
      let same : drop first (entries t (m ∷ h)) ≡ drop first (entries t h) = log_more t first m h few ∙ append-nil (drop first (entries t h)) in
      next_ran (alone_with image t first total (drop first (entries t h) ++ more)) (here image t first h outs)
      (body_at image (m ∷ h) t) back did.executes
      ∙ ap Ok (same_place _ _ _ _ _ _ (sym (went_at image h t (body_at image (m ∷ h) t) w back refl)) (ap length (sym same)) (sym (append-nil outs))));
}

-- a call that is answered, of this task
answered_next : (image : ImageView) (t : ℕ) (entry : DataEntry) (output : Option OutputEntry) (leaves : Option Kind) (w : Whole) (h : History) →
    t < length (now image h).bodies →
    IsCall image h (record { deed = Answers t entry output; leaves = leaves; after = w }) t entry output →
    Advances image t (record { deed = Answers t entry output; leaves = leaves; after = w }) h
answered_next image t entry output leaves w h within did = record {
  next = λ first total more outs few.
      (let m : Moment = record { deed = Answers t entry output; leaves = leaves; after = w } in
      let log : List DataEntry = drop first (entries t h) in
      let mine : entries_of t (Answers t entry output) ≡ entry ∷ [] = rw (eq-eqb t t refl) refl in
      let more_log : drop first (entries t (m ∷ h)) ≡ log ++ entry ∷ [] = log_more t first m h few ∙ ap (λ es. log ++ es) mine in
      let put : body_at image (m ∷ h) t ≡ reply (entry_of image t) (body_at image h t) entry =
      ap (λ bs. unwrap_or (slice_get bs t) no_body) did.bodies
      ∙ ap (λ o. unwrap_or o no_body) (slice_get_set_same (now image h).bodies t _ within) in
      let used : length (drop first (entries t (m ∷ h))) ≡ length log + 1 = ap length more_log ∙ length-append log (entry ∷ []) in
      let tells : made t (Answers t entry output) ≡ option_to_list output = rw (eq-eqb t t refl) refl in
      ap (λ es. next_or_why (alone_with image t first total (log ++ (es ++ more))) (here image t first h outs)) mine
      ∙ next_answered (alone_with image t first total (log ++ (entry ∷ more))) (here image t first h outs) entry.service entry did.calls
      (there_after log entry more) (eq-eqb entry.service entry.service refl)
      ∙ ap Ok (same_place _ _ _ _ _ _
      (sym (answered_at image h t entry output leaves w put)) (sym used) (ap (λ os. outs ++ os) (sym did.makes ∙ sym tells))));
}

-- whatever a moment did, by its parts
moved_by : (image : ImageView) (t : ℕ) (d : Deed) (leaves : Option Kind) (w : Whole) (h : History) →
    t < length (now image h).bodies → DidDeed image h (record { deed = d; leaves = leaves; after = w }) d →
    Moves image t (record { deed = d; leaves = leaves; after = w }) h
moved_by image t (Arrives mask ports) leaves w h within did = inl (record {
  standing = rests_at image (record { deed = Arrives mask ports; leaves = leaves; after = w }) h t (arrives_apart t mask ports)
      (ap (λ (bs : List Body). slice_get bs t) did.bodies);
  entries = refl;
  outputs = refl;
})
moved_by image t (Steps task back) leaves w h within did = elim (cases_eq task t) [
  | inl mine ↦
      inr (subst (λ (k : ℕ). Advances image t (record { deed = Steps k back; leaves = leaves; after = w }) h) (sym mine)
      (subst (λ (l : Option Kind). Advances image t (record { deed = Steps t back; leaves = l; after = w }) h) (sym did.leaves)
      (stepped image t back w h
      (subst (λ (k : ℕ). IsStep image h (record { deed = Steps k back; leaves = None; after = w }) k back) mine
      (subst (λ (l : Option Kind). IsStep image h (record { deed = Steps task back; leaves = l; after = w }) task back) did.leaves did)))))
  | inr other ↦
      let apart : t ≢ task = λ e. other (sym e) in
      inl (record {
        standing = rests_at image (record { deed = Steps task back; leaves = leaves; after = w }) h t (steps_apart t task back apart)
            (ap (λ (bs : List Body). slice_get bs t) did.bodies ∙ slice_get_set_other (now image h).bodies task t _ apart);
        entries = refl;
        outputs = refl;
      })
]
moved_by image t (Answers task entry output) leaves w h within did = elim (cases_eq task t) [
  | inl mine ↦
      inr (subst (λ (k : ℕ). Advances image t (record { deed = Answers k entry output; leaves = leaves; after = w }) h) (sym mine)
      (answered_next image t entry output leaves w h within
      (subst (λ (k : ℕ). IsCall image h (record { deed = Answers k entry output; leaves = leaves; after = w }) k entry output) mine did)))
  | inr other ↦
      let apart : t ≢ task = λ e. other (sym e) in
      inl (record {
        standing = rests_at image (record { deed = Answers task entry output; leaves = leaves; after = w }) h t (answers_apart t task entry output apart)
            (ap (λ (bs : List Body). slice_get bs t) did.bodies ∙ slice_get_set_other (now image h).bodies task t _ apart);
        entries = rw (ne_eqb task t other) refl;
        outputs = rw (ne_eqb task t other) refl;
      })
]
moved_by image t (Faulted task cause) leaves w h within did = inl (record {
  standing = rests_at image (record { deed = Faulted task cause; leaves = leaves; after = w }) h t (faulted_apart t task cause)
      (ap (λ (bs : List Body). slice_get bs t) did.bodies);
  entries = refl;
  outputs = refl;
})

pub moved : (image : ImageView) (t : ℕ) (m : Moment) (h : History) → IsRun image h → Follows image h m → t < length image.loads →
    Moves image t m h
moved image t m h r f below = moved_by image t m.deed m.leaves m.after h (omega (arith, bodies_there image h r, below)) f.did

-- every task of a run is one
booted_walks : (image : ImageView) (t : ℕ) → IsImage image → t < length image.loads → IsTask (standing_task (entry_of image t) (standing_at image [] t))
unfolding backs epochs
booted_walks image t i below =
    let load = load_sound image t i below in
    let body : body_at image [] t ≡ _ = body_booted image t below in
    subst (λ (b : Body). IsTask (standing_task (entry_of image t) (record { body = b; epoch = 0; count = 0 }))) (sym body)
    (record {
      entry = (load.aligned, omega (arith, load.inside, load.short_text));
      words = (load.some_words, load.few_words);
      registers = refl;
      pc = (load.aligned, omega (arith, load.inside, load.short_text));
      count = omega arith;
    })

pub walks : (image : ImageView) (t : ℕ) (h : History) → IsImage image → IsRun image h → t < length image.loads →
    IsTask (standing_task (entry_of image t) (standing_at image h t))
walks image t [] i Boots below = booted_walks image t i below
walks image t (m ∷ h) i (GoesOn r f) below =
    let before : IsTask (standing_task (entry_of image t) (standing_at image h t)) = walks image t h i r below in
    elim (moved image t m h r f below) [
      | inl still ↦ subst (λ (s : Standing). IsTask (standing_task (entry_of image t) s)) (sym still.standing) before
      | inr on ↦
          (walkers_stay (alone_with image t 0 0 (entries t h ++ (entries_of t m.deed ++ []))) (here image t 0 h []) (here image t 0 (m ∷ h) ([] ++ made t m.deed))
          (record { few = (load_sound image t i below).short_text; task = before }) (on.next 0 0 [] [] (omega arith))).task
    ]

-- the walker at a moment, with any entries and outputs
pub walker : (image : ImageView) (t first total : ℕ) (log : List DataEntry) (outs : List OutputEntry) (h : History) → IsImage image → IsRun image h →
    t < length image.loads → IsWalker (alone_with image t first total log) (here image t first h outs)
walker image t first total log outs h i r below =
    record { few = (load_sound image t i below).short_text; task = walks image t h i r below }

-- a task that does not run
no_entries_by : (image : ImageView) (t : ℕ) (m : Moment) (h : History) → running_at image h ≢ t → (d : Deed) → DidDeed image h m d → entries_of t d ≡ []
no_entries_by image t m h rests (Arrives mask ports) did = refl
no_entries_by image t m h rests (Steps task back) did = refl
no_entries_by image t m h rests (Answers task entry output) did = rw (ne_eqb task t (λ e. rests (did.turn.runs ∙ e))) refl
no_entries_by image t m h rests (Faulted task cause) did = refl

pub stays : (image : ImageView) (t : ℕ) (m : Moment) (h : History) → Follows image h m → running_at image h ≢ t → StandsStill image t m h
stays image t m h f rests = record {
  standing = stands_still image h m t f rests;
  entries = no_entries_by image t m h rests m.deed f.did;
  outputs = others_made image h m t rests m.deed f.did;
}
