-- The text of a run from a point is put together of what each task did, the control entries after the
-- point, and the run's last moment.
use Rattle.std.proofs.Common.{◌≡◌, ◌≢◌, ℕ, zero, suc, ◌+◌, ◌-◌, ◌<◌, ◌≤◌, Bool, true, false, ◌&&◌, ◌==◌, if◌then◌else◌, List, [], ◌∷◌, ◌++◌, length, map, drop, refl, ap, sym, ◌∙◌, arith, inl, inr, Option, Some, None, slice_get, unwrap_or, length-append, length-drop}
use Rattle.std.specs.Prelude.{option_map, option_and_then}
use Rattle.std.proofs.lemmas.Bool.{cases_Bool, cases_lt, eq-eqb, ne_eqb}
use Rattle.std.proofs.Math.Seq.{drop-nil}
use Rattle.std.proofs.lemmas.List.{drop_all, length-map, map-append, ext_get_or, get_or-map}
use Rattle.std.proofs.lemmas.Option.{slice_get_past, get_or_from_slice_get, slice_get-get_or}
use Rattle.tm_marker.specs.declared.entries.Switch.{Switch}
use Rattle.tm_kernel.specs.declared.kernel.TaskState.{TaskState}
use Rattle.tm_kernel.specs.declared.kernel.TaskState.TheVariants.{Suspended}
use Rattle.tm_kernel.specs.State.{nobody, state_number}
use Rattle.tm_ring.specs.Kept.{Kept, item_of}
use Rattle.tm_log.specs.Points.{entries_from}
use Rattle.tm_spelling.specs.Story.{View, Leave, Block, Last}
use Rattle.tm_spelling.specs.Tracks.{Track, leave_in, leave_by, blocks_by, last_by, lasts_by, story_by}
use Rattle.tm_image.specs.Image.{ImageView, IsImage}
use Rattle.tm_system.specs.History.{Moment, History}
use Rattle.tm_system.specs.Run.{now, running_at}
use Rattle.tm_system.specs.Controls.{controls, is_switch, switch_at}
use Rattle.tm_system.specs.Telling.{upto, is_stop, leave_at, blocks, below, number_of, story}
use Rattle.tm_system.specs.Follows.{IsRun, Boots, GoesOn}
use Rattle.tm_system.specs.Laws.{IsSoundAt}
use Rattle.tm_system.specs.Accepted.{IsPointKept}
use Rattle.tm_system.proofs.Below.{length-below, slice_get-below, get_front, get_last}
use Rattle.tm_system.proofs.Texts.{upto_boot, controls_stay, controls_more}
use Rattle.tm_system.specs.WindowOf.{window_of, tail_at}
use Rattle.tm_system.specs.Replaying.{runs_at_point}
use Rattle.tm_fidelity.proofs.Reading.{rest_is, point_kept, item_kept}
use Rattle.tm_fidelity.proofs.Still.{not_nobody}
use Rattle.tm_fidelity.proofs.Upto.{upto_before, upto_here, no_controls, here, later_stay, later_more}
use Rattle.tm_fidelity.proofs.Blocks.{blocks_stay, blocks_more, blocks_before, boot_blocks, no_blocks}
use Rattle.tm_fidelity.proofs.Outputs.{running_there}
use Rattle.tm_fidelity.proofs.Tracks.{left_of, run_stops, run_track, stops_stay, leave_stays, leave_here}

-- the tracks of all tasks
abbrev pub run_tracks : ImageView → ℕ → History → List Track
run_tracks image p h = below (length image.loads) (run_track image p h)

-- how a task left at the control entry of a number, by its stops
abbrev leave_of : ImageView → ℕ → History → ℕ → Switch → Option Leave
leave_of image p h k entry = leave_by (run_tracks image p h) k entry

leave_of_task : (image : ImageView) (p : ℕ) (h : History) (k : ℕ) (entry : Switch) → entry.from < length image.loads →
    leave_of image p h k entry ≡ leave_in k (run_stops image p entry.from h)
leave_of_task image p h k entry below' =
    ap (option_and_then (λ track. leave_in k track.stops)) (slice_get-below (length image.loads) (run_track image p h) entry.from below')

leave_of_none : (image : ImageView) (p : ℕ) (h : History) (k : ℕ) (entry : Switch) → length image.loads ≤ entry.from →
    leave_of image p h k entry ≡ None
leave_of_none image p h k entry past =
    ap (option_and_then (λ track. leave_in k track.stops))
    (slice_get_past (run_tracks image p h) entry.from (omega (arith, past, length-below (length image.loads) (run_track image p h))))

leave_of_stays : (image : ImageView) (p k : ℕ) (m : Moment) (h : History) (entry : Switch) → k ≢ length (controls image (m ∷ h)) →
    leave_of image p (m ∷ h) k entry ≡ leave_of image p h k entry
leave_of_stays image p k m h entry other = elim (cases_lt entry.from (length image.loads)) [
  | inl below' ↦
      leave_of_task image p (m ∷ h) k entry below' ∙ leave_stays image p entry.from k m h other ∙ sym (leave_of_task image p h k entry below')
  | inr past ↦ leave_of_none image p (m ∷ h) k entry past ∙ sym (leave_of_none image p h k entry past)
]

-- blocks of one more entry
blocks_by_more : (tracks : List Track) (seq : ℕ) (entries : List Switch) (entry : Switch) →
    blocks_by tracks seq (entries ++ entry ∷ []) ≡
    blocks_by tracks seq entries ++ (record { seq = seq + length entries; switch = entry; leave = leave_by tracks (seq + length entries) entry }) ∷ []
unfolding blocks_by
blocks_by_more tracks seq [] entry =
    ap (λ (n : ℕ). (let b : Block = record { seq = n; switch = entry; leave = leave_by tracks n entry } in b ∷ [])) (let e : seq ≡ seq + 0 = omega arith in e)
blocks_by_more tracks seq (first ∷ rest) entry =
    ap (λ bs. (record { seq = seq; switch = first; leave = leave_by tracks seq first }) ∷ bs) (blocks_by_more tracks (seq + 1) rest entry
    ∙ ap (λ (n : ℕ). blocks_by tracks (seq + 1) rest ++ (let b : Block = record { seq = n; switch = entry; leave = leave_by tracks n entry } in b ∷ []))
    (let e : seq + 1 + length rest ≡ seq + suc (length rest) = omega arith in e))

-- tracks that tell the same of these numbers
blocks_by_same : (tracks others : List Track) (seq : ℕ) (entries : List Switch) →
    ((k : ℕ) (entry : Switch) → k < seq + length entries → leave_by tracks k entry ≡ leave_by others k entry) →
    blocks_by tracks seq entries ≡ blocks_by others seq entries
unfolding blocks_by
blocks_by_same tracks others seq [] same = refl
blocks_by_same tracks others seq (first ∷ rest) same =
    ap (λ o. (record { seq = seq; switch = first; leave = o }) ∷ blocks_by tracks (seq + 1) rest) (same seq first (omega arith))
    ∙ ap (λ bs. (record { seq = seq; switch = first; leave = leave_by others seq first }) ∷ bs)
    (blocks_by_same tracks others (seq + 1) rest (λ k entry before. same k entry (omega (arith, before))))

no_blocks_by : (tracks : List Track) (seq : ℕ) → blocks_by tracks seq [] ≡ []
unfolding blocks_by
no_blocks_by tracks seq = refl

-- how the running task left at the moment's own entry
leave_is : (image : ImageView) (p : ℕ) (m : Moment) (h : History) → IsImage image → IsRun image h → is_switch image m h ≡ true →
    p ≤ length (controls image h) → length (controls image (m ∷ h)) ≡ length (controls image h) + 1 →
    leave_of image p (m ∷ h) (length (controls image (m ∷ h))) (switch_at image m h) ≡ leave_at image p m h
leave_is image p m h i r e before one = elim (running_there image h r) [
  | inl none ↦
      leave_of_none image p (m ∷ h) (length (controls image (m ∷ h))) (switch_at image m h) (omega (arith, none, i.loads, i.spec.few_tasks))
      ∙ sym (leaves_none (running_at image h == nobody) (left_of image p m h) (eq-eqb (running_at image h) nobody none))
  | inr there ↦
      let stops : is_stop image (running_at image h) m h ≡ true = rw (e, eq-eqb (running_at image h) (running_at image h) refl) refl in
      leave_of_task image p (m ∷ h) (length (controls image (m ∷ h))) (switch_at image m h) there
      ∙ leave_here image p (running_at image h) m h stops before (omega (arith, one))
      ∙ sym (leaves_some (running_at image h == nobody) (left_of image p m h)
      (ne_eqb (running_at image h) nobody (not_nobody image (running_at image h) i there)))
]
  where
    leaves_none : (b : Bool) (l : Leave) → b ≡ true → (if b then None else Some l) ≡ None
    leaves_none b l is = rw is refl

    leaves_some : (b : Bool) (l : Leave) → b ≡ false → (if b then None else Some l) ≡ Some l
    leaves_some b l is = rw is refl

-- the control entries after a point, with how each task left
abbrev blocks_of : ImageView → ℕ → History → List Block
blocks_of image p h = blocks_by (run_tracks image p h) (p + 1) (drop p (controls image h))

no_stop : (switch runs : Bool) → switch ≡ false → (switch && runs) ≡ false
no_stop switch runs e = rw e refl

leave_of_same : (image : ImageView) (p k : ℕ) (m : Moment) (h : History) (entry : Switch) → is_switch image m h ≡ false →
    leave_of image p (m ∷ h) k entry ≡ leave_of image p h k entry
leave_of_same image p k m h entry e = elim (cases_lt entry.from (length image.loads)) [
  | inl below' ↦
      leave_of_task image p (m ∷ h) k entry below'
      ∙ ap (leave_in k) (stops_stay image p entry.from m h (no_stop (is_switch image m h) (running_at image h == entry.from) e))
      ∙ sym (leave_of_task image p h k entry below')
  | inr past ↦ leave_of_none image p (m ∷ h) k entry past ∙ sym (leave_of_none image p h k entry past)
]

blocks_next : (image : ImageView) (p : ℕ) (m : Moment) (h : History) → IsImage image → IsRun image h → p ≤ length (controls image h) →
    blocks_of image p h ≡ blocks image p h → blocks_of image p (m ∷ h) ≡ blocks image p (m ∷ h)
blocks_next image p m h i r before is =
    let long : length (drop p (controls image h)) ≡ length (controls image h) - p = length-drop p (controls image h) in
    elim (cases_Bool (is_switch image m h)) [
      | inl e ↦
          let more : length (controls image (m ∷ h)) ≡ length (controls image h) + 1 =
          ap length (controls_more image m h e) ∙ length-append (controls image h) (switch_at image m h ∷ []) in
          let number : p + 1 + length (drop p (controls image h)) ≡ length (controls image (m ∷ h)) = omega (arith, long, more, before) in
          ap (blocks_by (run_tracks image p (m ∷ h)) (p + 1)) (later_more image p m h e before)
          ∙ blocks_by_more (run_tracks image p (m ∷ h)) (p + 1) (drop p (controls image h)) (switch_at image m h)
          ∙ ap (λ bs. bs ++ (let b : Block = record {
            seq = p + 1 + length (drop p (controls image h));
            switch = switch_at image m h;
            leave = leave_of image p (m ∷ h) (p + 1 + length (drop p (controls image h))) (switch_at image m h);
          } in b ∷ []))
          (blocks_by_same (run_tracks image p (m ∷ h)) (run_tracks image p h) (p + 1) (drop p (controls image h))
          (λ k entry low. leave_of_stays image p k m h entry (λ q. (let bad : k < k = omega (arith, low, number, q) in absurd (omega arith)))) ∙ is)
          ∙ ap (λ (n : ℕ). blocks image p h ++ (let b : Block = record {
            seq = n;
            switch = switch_at image m h;
            leave = leave_of image p (m ∷ h) n (switch_at image m h);
          } in b ∷ [])) number
          ∙ ap (λ (o : Option Leave). blocks image p h ++ (let b : Block = record {
            seq = length (controls image (m ∷ h));
            switch = switch_at image m h;
            leave = o;
          } in b ∷ [])) (leave_is image p m h i r e before more)
          ∙ sym (blocks_more image p m h e before)
      | inr e ↦
          let same : length (controls image (m ∷ h)) ≡ length (controls image h) = ap length (controls_stay image m h e) in
          ap (blocks_by (run_tracks image p (m ∷ h)) (p + 1)) (later_stay image p m h e)
          ∙ blocks_by_same (run_tracks image p (m ∷ h)) (run_tracks image p h) (p + 1) (drop p (controls image h))
          (λ k entry low. leave_of_same image p k m h entry e)
          ∙ is ∙ sym (blocks_stay image p m h e)
    ]

blocks_are : (image : ImageView) (p : ℕ) (h : History) → IsImage image → IsRun image h → p ≤ length (controls image h) →
    blocks_of image p h ≡ blocks image p h
blocks_are image p [] i Boots reached =
    ap (blocks_by (run_tracks image p []) (p + 1)) (ap (drop p) (no_controls image) ∙ drop-nil p)
    ∙ no_blocks_by (run_tracks image p []) (p + 1) ∙ sym (boot_blocks image p)
blocks_are image p (m ∷ h) i (GoesOn r f) reached = elim (cases_lt (length (controls image h)) p) [
  | inl later ↦
      let own = here image p m h later reached in
      let all : length (controls image (m ∷ h)) ≤ p =
      omega (arith, own.number, ap length (controls_more image m h own.switch), length-append (controls image h) (switch_at image m h ∷ [])) in
      ap (blocks_by (run_tracks image p (m ∷ h)) (p + 1)) (drop_all p (controls image (m ∷ h)) all)
      ∙ no_blocks_by (run_tracks image p (m ∷ h)) (p + 1)
      ∙ sym (blocks_before image p m h later ∙ no_blocks image p h later)
  | inr before ↦ blocks_next image p m h i r before (blocks_are image p h i r before)
]

-- who runs at a point
entry_there : (image : ImageView) (n : ℕ) (h : History) → IsRun image h → suc n ≤ length (controls image h) →
    option_map (λ (entry : Switch). entry.to) (slice_get (controls image h) n) ≡ Some (running_at image (upto image (suc n) h))
entry_there image n [] Boots reached = absurd (omega (arith, reached, ap length (no_controls image)))
entry_there image n (m ∷ h) (GoesOn r f) reached = elim (cases_lt (length (controls image h)) (suc n)) [
  | inl later ↦
      let own = here image (suc n) m h later reached in
      let last : n ≡ length (controls image h) = omega (arith, own.number) in
      ap (λ l. option_map (λ (entry : Switch). entry.to) (slice_get l n)) (controls_more image m h own.switch)
      ∙ ap (λ k. option_map (λ (entry : Switch). entry.to) (slice_get (controls image h ++ switch_at image m h ∷ []) k)) last
      ∙ ap (option_map (λ (entry : Switch). entry.to)) (get_last (controls image h) (switch_at image m h))
      ∙ ap (λ (g : History). Some (running_at image g)) (sym (upto_here image (suc n) m h later))
  | inr before ↦
      let same : slice_get (controls image (m ∷ h)) n ≡ slice_get (controls image h) n = elim (cases_Bool (is_switch image m h)) [
        | inl e ↦ ap (λ l. slice_get l n) (controls_more image m h e) ∙ get_front (controls image h) (switch_at image m h) n (omega (arith, before))
        | inr e ↦ ap (λ l. slice_get l n) (controls_stay image m h e)
      ] in
      ap (option_map (λ (entry : Switch). entry.to)) same ∙ entry_there image n h r before
      ∙ ap (λ (g : History). Some (running_at image g)) (sym (upto_before image (suc n) m h before))
]

runs_by : (control : Kept Switch) (n : ℕ) → runs_at_point control (suc n) ≡ unwrap_or (option_map (λ (entry : Switch). entry.to) (item_of control n)) nobody
runs_by control n =
    let some : suc n ≢ 0 = λ e. absurd (omega (arith, e)) in
    rw (ne_eqb (suc n) 0 some)
    (ap (λ k. unwrap_or (option_map (λ (entry : Switch). entry.to) (item_of control k)) nobody) (let e : suc n - 1 ≡ n = omega arith in e))

runs_there : (image : ImageView) (p : ℕ) (h : History) → IsRun image h → p ≤ length (controls image h) → IsPointKept image h p →
    runs_at_point (window_of image h).control p ≡ running_at image (upto image p h)
runs_there image zero h r reached kept = sym (ap (running_at image) (upto_boot image h))
runs_there image (suc n) h r reached kept =
    runs_by (window_of image h).control n
    ∙ ap (λ o. unwrap_or (option_map (λ (entry : Switch). entry.to) o) nobody) (item_kept image.caps.control (controls image h) n kept)
    ∙ ap (λ o. unwrap_or o nobody) (entry_there image n h r reached)

-- the tasks at the end
lasts_more : (running : ℕ) (tracks : List Track) (states : List ℕ) (track : Track) (state : ℕ) → length tracks ≡ length states →
    lasts_by running (tracks ++ track ∷ []) (states ++ state ∷ []) ≡ lasts_by running tracks states ++ last_by running track state ∷ []
unfolding lasts_by
lasts_more running [] [] track state same = refl
lasts_more running [] (s ∷ ss) track state same = absurd (omega (arith, same))
lasts_more running (t ∷ ts) [] track state same = absurd (omega (arith, same))
lasts_more running (t ∷ ts) (s ∷ ss) track state same =
    ap (λ l. last_by running t s ∷ l) (lasts_more running ts ss track state (omega (arith, same)))

no_lasts : (running : ℕ) → lasts_by running [] [] ≡ []
unfolding lasts_by
no_lasts running = refl

lasts_below : (running n : ℕ) (f : ℕ → Track) (g : ℕ → ℕ) → lasts_by running (below n f) (below n g) ≡ below n (λ t. last_by running (f t) (g t))
lasts_below running zero f g = no_lasts running
lasts_below running (suc n) f g =
    lasts_more running (below n f) (below n g) (f n) (g n) (length-below n f ∙ sym (length-below n g))
    ∙ ap (λ l. l ++ last_by running (f n) (g n) ∷ []) (lasts_below running n f g)

states_below : (states : List TaskState) (n : ℕ) → length states ≡ n → map state_number states ≡ below n (λ t. number_of (slice_get states t))
states_below states n many =
    let g : ℕ → ℕ = λ t. number_of (slice_get states t) in
    ext_get_or 0 (map state_number states) (below n g) (length-map states state_number ∙ many ∙ sym (length-below n g))
    (λ t there.
    (let within : t < length states = omega (arith, there, length-map states state_number) in
    get_or-map state_number states t Suspended 0 within
    ∙ sym (get_or_from_slice_get (below n g) t (g t) 0 (slice_get-below n g t (omega (arith, within, many)))
    ∙ ap number_of (slice_get-get_or states t Suspended within))))

pub map-below : {A B : Type 0} (f : A → B) (n : ℕ) (g : ℕ → A) → map f (below n g) ≡ below n (λ t. f (g t))
map-below f zero g = refl
map-below f (suc n) g = map-append f (below n g) (g n ∷ []) ∙ ap (λ l. l ++ f (g n) ∷ []) (map-below f n g)

pub stories_are_told : (image : ImageView) (h : History) (p : ℕ) → IsImage image → IsRun image h → IsSoundAt image h → p ≤ length (controls image h) →
    IsPointKept image h p →
    story_by p (runs_at_point (window_of image h).control p) (run_tracks image p h) (entries_from (window_of image h).control p) (window_of image h).tail
    ≡ story image p h
stories_are_told image h p i r s reached kept =
    let states : length (now image h).kernel.states ≡ length image.loads =
    s.kernel.states ∙ ap (λ x. length x.tasks) s.spec ∙ sym i.loads in
    ap (λ (x : ℕ). record (story_by p x (run_tracks image p h) (entries_from (window_of image h).control p) (tail_at image h)) { from = p })
    (runs_there image p h r reached kept)
    ∙ ap (λ (x : List View). record (story_by p (running_at image (upto image p h)) (run_tracks image p h) (entries_from (window_of image h).control p) (tail_at image h)) { starts = x })
    (map-below (λ (t : Track). t.start) (length image.loads) (run_track image p h))
    ∙ ap (λ (x : List Block). record (story image p h) { blocks = x; lasts = lasts_by (running_at image h) (run_tracks image p h) (tail_at image h).state })
    (ap (blocks_by (run_tracks image p h) (p + 1)) (rest_is image.caps.control (controls image h) p (omega (arith, point_kept image h p kept)))
    ∙ blocks_are image p h i r reached)
    ∙ ap (λ (x : List Last). record (story image p h) { lasts = x })
    (ap (lasts_by (running_at image h) (run_tracks image p h)) (states_below (now image h).kernel.states (length image.loads) states)
    ∙ lasts_below (running_at image h) (length image.loads) (run_track image p h) (λ t. number_of (slice_get (now image h).kernel.states t)))
