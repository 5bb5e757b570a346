-- A task by itself comes from a checkpoint to where it stands at each later moment of its epoch.
use Rattle.std.proofs.Common.{◌≡◌, ℕ, ◌<◌, ◌≤◌, true, false, List, [], ◌∷◌, ◌++◌, length, drop, refl, ap, sym, ◌∙◌, subst, arith, inl, inr, Some, slice_get, length-append, append-nil, append_assoc}
use Rattle.std.proofs.lemmas.Bool.{cases_Bool, cases_lt}
use Rattle.std.proofs.lemmas.Bool.Decides.{nat_tests}
use Rattle.std.proofs.lemmas.List.{drop_all}
use Rattle.std.proofs.lemmas.Option.{slice_get_within}
use Rattle.tm_marker.specs.declared.marker.Marker.{Marker}
use Rattle.tm_marker.specs.declared.entries.DataEntry.{DataEntry}
use Rattle.tm_marker.specs.declared.entries.OutputEntry.{OutputEntry}
use Rattle.tm_marker.specs.Order.{marker_lt, marker_eq}
use Rattle.tm_check.specs.Checkpoint.{Checkpoint}
use Rattle.tm_task.specs.Standing.{Standing, marker_of}
use Rattle.tm_task.specs.Place.{Place, start_place}
use Rattle.tm_image.specs.Image.{ImageView, IsImage}
use Rattle.tm_system.specs.History.{Moment, History}
use Rattle.tm_system.specs.Run.{body_at}
use Rattle.tm_system.specs.Marks.{is_start, backs, epochs, standing_at}
use Rattle.tm_system.specs.Controls.{entries, entries_of, checkpoints}
use Rattle.tm_system.specs.Gaining.{checkpoint_at}
use Rattle.tm_system.specs.Telling.{made}
use Rattle.tm_system.specs.Follows.{Follows, IsRun, Boots, GoesOn}
use Rattle.tm_system.specs.Alone.{Alone, walk_to}
use Rattle.tm_system.proofs.Marking.{same_standing, epochs_start, epochs_stay, backs_start}
use Rattle.tm_system.proofs.Below.{get_front, get_last}
use Rattle.tm_system.proofs.Walking.{walks_go_on, walkers_rise}
use Rattle.tm_system.proofs.Counts.{checkpoints_count}
use Rattle.tm_fidelity.proofs.Moving.{alone_with, here, entries_more, log_more, StandsStill, moved, walker, same_place}

-- the order of markers, by their parts
after_both : (e c p f d q g k r : ℕ) →
    marker_lt (record { epoch = e; count = c; pc = p }) (record { epoch = f; count = d; pc = q }) ≡ true →
    marker_lt (record { epoch = g; count = k; pc = r }) (record { epoch = f; count = d; pc = q }) ≡ false →
    marker_lt (record { epoch = e; count = c; pc = p }) (record { epoch = g; count = k; pc = r }) ≡ true
after_both e c p f d q g k r before later = grind (arith, nat_tests)

not_both : (e c p g k r : ℕ) →
    marker_lt (record { epoch = e; count = c; pc = p }) (record { epoch = g; count = k; pc = r }) ≡ true →
    marker_lt (record { epoch = g; count = k; pc = r }) (record { epoch = e; count = c; pc = p }) ≡ false
not_both e c p g k r before = grind (arith, nat_tests)

-- a marker that is not before the later of two is after the earlier
passes : (m n wanted : Marker) → marker_lt m n ≡ true → marker_lt wanted n ≡ false → marker_lt m wanted ≡ true
passes m n wanted before later = after_both m.epoch m.count m.pc n.epoch n.count n.pc wanted.epoch wanted.count wanted.pc before later

not_before : (m wanted : Marker) → marker_lt m wanted ≡ true → marker_lt wanted m ≡ false
not_before m wanted before = not_both m.epoch m.count m.pc wanted.epoch wanted.count wanted.pc before

self_by : (e c p : ℕ) → marker_lt (record { epoch = e; count = c; pc = p }) (record { epoch = e; count = c; pc = p }) ≡ false
self_by e c p = grind (arith, nat_tests)

-- a marker is not before itself, and is itself
pub not_before_itself : (m : Marker) → marker_lt m m ≡ false
not_before_itself m = self_by m.epoch m.count m.pc

same_by : (e c p : ℕ) → marker_eq (record { epoch = e; count = c; pc = p }) (record { epoch = e; count = c; pc = p }) ≡ true
same_by e c p = grind (arith, nat_tests)

pub is_itself : (m : Marker) → marker_eq m m ≡ true
is_itself m = same_by m.epoch m.count m.pc

-- from a place, with its data entries from a number on and any later ones, the task comes to every marker by
-- where it stands after the latest moment, unless the marker is before that
abbrev pub Leads : ImageView → ℕ → ℕ → ℕ → History → Place → List OutputEntry → Type 0
Leads image t first total h p outs = (more : List DataEntry) (wanted : Marker) →
    marker_lt wanted (marker_of (standing_at image h t)) ≡ false →
    walk_to (alone_with image t first total (drop first (entries t h) ++ more)) wanted p ≡
    walk_to (alone_with image t first total (drop first (entries t h) ++ more)) wanted (here image t first h outs)

-- a task that stands still is where it was
pub still_here : (image : ImageView) (t first : ℕ) (m : Moment) (h : History) (outs : List OutputEntry) → first ≤ length (entries t h) →
    StandsStill image t m h → here image t first (m ∷ h) outs ≡ here image t first h outs
still_here image t first m h outs few still =
    same_place _ _ _ _ _ _ still.standing
    (ap length (log_more t first m h few ∙ ap (λ es. drop first (entries t h) ++ es) still.entries ∙ append-nil (drop first (entries t h)))) refl

-- the task by itself, with the entries of one more moment
pub more_alone : (image : ImageView) (t first total : ℕ) (m : Moment) (h : History) (more : List DataEntry) → first ≤ length (entries t h) →
    alone_with image t first total (drop first (entries t (m ∷ h)) ++ more) ≡
    alone_with image t first total (drop first (entries t h) ++ (entries_of t m.deed ++ more))
more_alone image t first total m h more few =
    ap (λ l. alone_with image t first total (l ++ more)) (log_more t first m h few)
    ∙ ap (alone_with image t first total) (append_assoc (drop first (entries t h)) (entries_of t m.deed) more)

-- one moment on
pub leads_on : (image : ImageView) (t first total : ℕ) (m : Moment) (h : History) (p : Place) (outs : List OutputEntry) →
    IsImage image → IsRun image h → Follows image h m → t < length image.loads → first ≤ length (entries t h) →
    Leads image t first total h p outs → Leads image t first total (m ∷ h) p (outs ++ made t m.deed)
leads_on image t first total m h p outs i r f below few leads more wanted later =
    let a : Alone = alone_with image t first total (drop first (entries t h) ++ (entries_of t m.deed ++ more)) in
    subst (λ (b : Alone). walk_to b wanted p ≡ walk_to b wanted (here image t first (m ∷ h) (outs ++ made t m.deed)))
    (sym (more_alone image t first total m h more few))
    (elim (moved image t m h r f below) [
      | inl still ↦
          leads (entries_of t m.deed ++ more) wanted
          (ap (λ (s : Standing). marker_lt wanted (marker_of s)) (sym still.standing) ∙ later)
          ∙ ap (walk_to a wanted)
          (ap (here image t first h) (sym (append-nil outs) ∙ ap (λ os. outs ++ os) (sym still.outputs))
          ∙ sym (still_here image t first m h (outs ++ made t m.deed) few still))
      | inr on ↦
          let is = on.next first total more outs few in
          let w = walker image t first total (drop first (entries t h) ++ (entries_of t m.deed ++ more)) outs h i r below in
          let rises = walkers_rise a (here image t first h outs) (here image t first (m ∷ h) (outs ++ made t m.deed)) w is in
          let before : marker_lt (marker_of (standing_at image h t)) wanted ≡ true =
          passes (marker_of (standing_at image h t)) (marker_of (standing_at image (m ∷ h) t)) wanted rises later in
          leads (entries_of t m.deed ++ more) wanted (not_before (marker_of (standing_at image h t)) wanted before)
          ∙ walks_go_on a wanted (here image t first h outs) (here image t first (m ∷ h) (outs ++ made t m.deed)) w before is
    ])

-- from where it stands it comes to where it stands
pub leads_here : (image : ImageView) (t first total : ℕ) (h : History) (p : Place) (outs : List OutputEntry) → p ≡ here image t first h outs →
    Leads image t first total h p outs
leads_here image t first total h p outs is more wanted later =
    ap (walk_to (alone_with image t first total (drop first (entries t h) ++ more)) wanted) is

-- the checkpoint of an epoch leads to where the task stands
pub record Way (image : ImageView) (t : ℕ) (h : History) (epoch : ℕ) : Type 0 where
  pub check : Checkpoint
  pub taken : slice_get (checkpoints image t h) epoch ≡ Some check
  pub few : check.data_number ≤ length (entries t h)
  pub outs : List OutputEntry
  pub leads : (total : ℕ) → Leads image t check.data_number total h (start_place check.body epoch) outs

boot_way : (image : ImageView) (t : ℕ) → Way image t [] 0
unfolding checkpoints epochs backs entries
boot_way image t = record {
  check = record { body = body_at image [] t; data_number = 0; control_number = 0 };
  taken = refl;
  few = omega arith;
  outs = [];
  leads = λ total. leads_here image t 0 total [] (start_place (body_at image [] t) 0) [] refl;
}

no_epochs : (t : ℕ) → epochs t [] ≡ 0
unfolding epochs
no_epochs t = refl

pub checks_more : (image : ImageView) (t : ℕ) (m : Moment) (h : History) → is_start t m.deed (backs t h) ≡ true →
    checkpoints image t (m ∷ h) ≡ checkpoints image t h ++ checkpoint_at image t m h ∷ []
unfolding checkpoints
checks_more image t m h e = rw e refl

pub checks_stay : (image : ImageView) (t : ℕ) (m : Moment) (h : History) → is_start t m.deed (backs t h) ≡ false →
    checkpoints image t (m ∷ h) ≡ checkpoints image t h
unfolding checkpoints
checks_stay image t m h e = rw e refl

-- the checkpoint of an epoch that starts
start_way : (image : ImageView) (t : ℕ) (m : Moment) (h : History) → is_start t m.deed (backs t h) ≡ true → Way image t (m ∷ h) (epochs t (m ∷ h))
start_way image t m h e =
    let many : epochs t (m ∷ h) ≡ length (checkpoints image t h) = epochs_start t m h e ∙ sym (checkpoints_count image t h) in
    let first : ℕ = length (entries t (m ∷ h)) in
    record {
      check = checkpoint_at image t m h;
      taken = ap (slice_get (checkpoints image t (m ∷ h))) many
          ∙ ap (λ cs. slice_get cs (length (checkpoints image t h))) (checks_more image t m h e)
          ∙ get_last (checkpoints image t h) (checkpoint_at image t m h);
      few = omega arith;
      outs = [];
      leads = λ total. leads_here image t first total (m ∷ h) (start_place (body_at image (m ∷ h) t) (epochs t (m ∷ h))) []
          (same_place _ _ _ _ _ _ (same_standing _ _ _ _ _ _ refl refl (sym (backs_start t m h e)))
          (ap length (sym (drop_all first (entries t (m ∷ h)) (omega arith)))) refl);
    }

-- a checkpoint that was taken stays
pub check_stays : (image : ImageView) (t k : ℕ) (c : Checkpoint) (m : Moment) (h : History) → slice_get (checkpoints image t h) k ≡ Some c →
    slice_get (checkpoints image t (m ∷ h)) k ≡ Some c
check_stays image t k c m h is = elim (cases_Bool (is_start t m.deed (backs t h))) [
  | inl e ↦
      ap (λ cs. slice_get cs k) (checks_more image t m h e)
      ∙ get_front (checkpoints image t h) (checkpoint_at image t m h) k (slice_get_within (checkpoints image t h) k c is) ∙ is
  | inr e ↦ ap (λ cs. slice_get cs k) (checks_stay image t m h e) ∙ is
]

-- and leads one moment on
way_on : (image : ImageView) (t : ℕ) (m : Moment) (h : History) (epoch : ℕ) → IsImage image → IsRun image h → Follows image h m →
    t < length image.loads → Way image t h epoch → Way image t (m ∷ h) epoch
way_on image t m h epoch i r f below w = record {
  check = w.check;
  taken = check_stays image t epoch w.check m h w.taken;
  few = omega (arith, w.few, ap length (entries_more t m h), length-append (entries t h) (entries_of t m.deed));
  outs = w.outs ++ made t m.deed;
  leads = λ total. leads_on image t w.check.data_number total m h (start_place w.check.body epoch) w.outs i r f below w.few (w.leads total);
}

pub way : (image : ImageView) (t : ℕ) (h : History) (epoch : ℕ) → IsImage image → IsRun image h → t < length image.loads → epoch ≤ epochs t h →
    Way image t h epoch
way image t [] epoch i Boots below reached =
    subst (Way image t []) (let e : 0 ≡ epoch = omega (arith, reached, no_epochs t) in e) (boot_way image t)
way image t (m ∷ h) epoch i (GoesOn r f) below reached = elim (cases_lt (epochs t h) epoch) [
  | inl later ↦
      let starts : is_start t m.deed (backs t h) ≡ true = elim (cases_Bool (is_start t m.deed (backs t h))) [
        | inl e ↦ e
        | inr e ↦ absurd (omega (arith, later, reached, epochs_stay t m h e))
      ] in
      subst (Way image t (m ∷ h)) (let e : epochs t (m ∷ h) ≡ epoch = omega (arith, later, reached, epochs_start t m h starts) in e)
      (start_way image t m h starts)
  | inr before ↦ way_on image t m h epoch i r f below (way image t h epoch i r below before)
]
