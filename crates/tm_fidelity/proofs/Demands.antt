-- As a run goes on from a point, each task by itself meets the demands on it, one after another.
use Rattle.std.proofs.Common.{◌≡◌, ◌≢◌, ℕ, ◌+◌, ◌<◌, ◌≤◌, Bool, true, false, ◌==◌, ◌&&◌, List, [], ◌∷◌, ◌++◌, length, drop, refl, ap, sym, ◌∙◌, subst, arith, inl, inr, length-append, length-drop}
use Rattle.std.proofs.lemmas.Bool.{cases_Bool, cases_eq, eq-eqb, ne_eqb}
use Rattle.tm_marker.specs.declared.marker.Marker.{Marker}
use Rattle.tm_marker.specs.declared.entries.DataEntry.{DataEntry}
use Rattle.tm_marker.specs.declared.entries.OutputEntry.{OutputEntry}
use Rattle.tm_marker.specs.declared.entries.Switch.{Switch}
use Rattle.tm_task.specs.Standing.{marker_of}
use Rattle.tm_task.specs.Place.{Place}
use Rattle.tm_spelling.specs.Story.{changes}
use Rattle.tm_spelling.specs.Tracks.{Stop}
use Rattle.tm_image.specs.Image.{ImageView, IsImage}
use Rattle.tm_system.specs.History.{Moment, History}
use Rattle.tm_system.specs.Run.{running_at, body_at}
use Rattle.tm_system.specs.Marks.{standing_at, marker_at}
use Rattle.tm_system.specs.Controls.{controls, is_switch, switch_at, entries, entries_of}
use Rattle.tm_system.specs.Telling.{upto, is_stop, printed, made, pending, cause_of, start_at}
use Rattle.tm_system.specs.Follows.{Follows, IsRun}
use Rattle.tm_system.specs.Alone.{Alone, Comes, walk_to}
use Rattle.tm_system.specs.Wanted.{Demand, Leaves, Stands, is_fault, left_wanted, resumed_wanted, wanted_by, start_wanted}
use Rattle.tm_system.specs.Tracing.{Tracing, On, stopped, meet, meets}
use Rattle.tm_system.proofs.Texts.{controls_more, pending_more, pending_none}
use Rattle.tm_system.proofs.Walking.{walks_end}
use Rattle.tm_system.proofs.Meeting.{meets_one, meets_none, meets_append, wanted_more}
use Rattle.tm_fidelity.proofs.Still.{runs_on, not_nobody}
use Rattle.tm_fidelity.proofs.Upto.{upto_before, later_stay, later_more}
use Rattle.tm_fidelity.proofs.Points.{marker_is}
use Rattle.tm_fidelity.proofs.Tracks.{run_stops, stop_at, stops_stay, stops_more}
use Rattle.tm_fidelity.proofs.Resting.{rests_pending, others_made, printed_stop, printed_stay, no_stop}
use Rattle.tm_fidelity.proofs.Moving.{alone_with, here, entries_more, stays}
use Rattle.tm_fidelity.proofs.Ways.{Leads, leads_on, leads_here, more_alone, still_here, not_before_itself}
use Rattle.tm_fidelity.proofs.Causes.{leaves_as}
use Rattle.tm_fidelity.proofs.Meetings.{meets_leaves, meets_faults, meets_stands}

-- the demands on a task up to the latest moment: of the point, and of the control entries after it
abbrev pub demands : ImageView → ℕ → ℕ → History → List Demand
demands image t p h =
    start_wanted p (marker_of (standing_at image (upto image p h) t)) ∷ wanted_by t (p + 1) (drop p (controls image h))

-- the task has met them: by itself it comes from its last stop to where it stands, and where it does not run
-- it stands there
pub record IsMet (image : ImageView) (t p first total : ℕ) (begin : Tracing) (h : History) : Type 0 where
  pub tracing : Tracing
  pub met : (more : List DataEntry) →
      meets (alone_with image t first total (drop first (entries t h) ++ more)) (demands image t p h) (On begin) ≡ On tracing
  pub leads : Leads image t first total h tracing.place (pending image t h)
  pub rests : running_at image h ≢ t → tracing.place ≡ here image t first h []
  pub start : tracing.start ≡ start_at image (upto image p h) t
  pub printed : tracing.printed ≡ printed image p t h
  pub stops : tracing.stops ≡ run_stops image p t h
  pub few : first ≤ length (entries t h)

-- a task that comes by where it stands comes to there
pub comes : (image : ImageView) (t first total : ℕ) (h : History) (p : Place) (outs : List OutputEntry) (more : List DataEntry) →
    Leads image t first total h p outs →
    walk_to (alone_with image t first total (drop first (entries t h) ++ more)) (marker_of (standing_at image h t)) p ≡ Comes (here image t first h outs)
comes image t first total h p outs more leads =
    let at : Marker = marker_of (standing_at image h t) in
    leads more at (not_before_itself at)
    ∙ walks_end (alone_with image t first total (drop first (entries t h) ++ more)) at (here image t first h outs) (not_before_itself at)

-- a moment without a control entry demands nothing
demands_quiet : (image : ImageView) (t p : ℕ) (m : Moment) (h : History) → is_switch image m h ≡ false → p ≤ length (controls image h) →
    demands image t p (m ∷ h) ≡ demands image t p h
demands_quiet image t p m h e before =
    ap (λ (g : History). start_wanted p (marker_of (standing_at image g t)) ∷ wanted_by t (p + 1) (drop p (controls image (m ∷ h)))) (upto_before image p m h before)
    ∙ ap (λ (cs : List Switch). start_wanted p (marker_of (standing_at image (upto image p h) t)) ∷ wanted_by t (p + 1) cs) (later_stay image p m h e)

-- one with an entry demands what the entry does
demands_more : (image : ImageView) (t p : ℕ) (m : Moment) (h : History) → is_switch image m h ≡ true → p ≤ length (controls image h) →
    demands image t p (m ∷ h) ≡ demands image t p h ++
    (left_wanted t (length (controls image (m ∷ h))) (switch_at image m h) ++ resumed_wanted t (length (controls image (m ∷ h))) (switch_at image m h))
demands_more image t p m h e before =
    let x : Switch = switch_at image m h in
    let first : Demand = start_wanted p (marker_of (standing_at image (upto image p h) t)) in
    let number : p + 1 + length (drop p (controls image h)) ≡ length (controls image (m ∷ h)) =
    omega (arith, length-drop p (controls image h), ap length (controls_more image m h e), length-append (controls image h) (x ∷ []), before) in
    ap (λ (g : History). start_wanted p (marker_of (standing_at image g t)) ∷ wanted_by t (p + 1) (drop p (controls image (m ∷ h)))) (upto_before image p m h before)
    ∙ ap (λ (cs : List Switch). first ∷ wanted_by t (p + 1) cs) (later_more image p m h e before)
    ∙ ap (λ (ds : List Demand). first ∷ ds)
    (wanted_more t (p + 1) (drop p (controls image h)) x
    ∙ ap (λ n. wanted_by t (p + 1) (drop p (controls image h)) ++ (left_wanted t n x ++ resumed_wanted t n x)) number)

-- a task stays at its place while another's moment, or an arrival, leaves it as it was
rests_still : (image : ImageView) (t : ℕ) (m : Moment) (h : History) (first : ℕ) → IsRun image h → Follows image h m → t < length image.loads →
    running_at image h ≢ t → first ≤ length (entries t h) → here image t first (m ∷ h) [] ≡ here image t first h []
rests_still image t m h first r f below rests few = still_here image t first m h [] few (stays image t m h f rests)

-- after the deed of a moment and before the demands of its control entry
record IsHalf (image : ImageView) (t p first total : ℕ) (begin : Tracing) (m : Moment) (h : History) (tracing : Tracing) : Type 0 where
  met : (more : List DataEntry) →
      meets (alone_with image t first total (drop first (entries t (m ∷ h)) ++ more)) (demands image t p h) (On begin) ≡ On tracing
  leads : Leads image t first total (m ∷ h) tracing.place (pending image t h ++ made t m.deed)
  rests : running_at image h ≢ t → tracing.place ≡ here image t first (m ∷ h) []
  none : running_at image h ≢ t → pending image t h ++ made t m.deed ≡ []
  few : first ≤ length (entries t (m ∷ h))

half : (image : ImageView) (t p first total : ℕ) (begin : Tracing) (m : Moment) (h : History) → IsImage image → IsRun image h → Follows image h m →
    t < length image.loads → (x : IsMet image t p first total begin h) → IsHalf image t p first total begin m h x.tracing
half image t p first total begin m h i r f below x = record {
  met = λ more. ap (λ (a : Alone). meets a (demands image t p h) (On begin)) (more_alone image t first total m h more x.few)
      ∙ x.met (entries_of t m.deed ++ more);
  leads = leads_on image t first total m h x.tracing.place (pending image t h) i r f below x.few x.leads;
  rests = λ rests. x.rests rests ∙ sym (rests_still image t m h first r f below rests x.few);
  none = λ rests. ap (λ os. os ++ made t m.deed) (rests_pending image h t r rests) ∙ others_made image h m t rests m.deed f.did;
  few = omega (arith, x.few, ap length (entries_more t m h), length-append (entries t h) (entries_of t m.deed));
}

-- the start is where it was
start_same : (image : ImageView) (t p : ℕ) (m : Moment) (h : History) → p ≤ length (controls image h) →
    start_at image (upto image p h) t ≡ start_at image (upto image p (m ∷ h)) t
start_same image t p m h before = ap (λ (g : History). start_at image g t) (sym (upto_before image p m h before))

-- a moment without a control entry is no stop
quiet_no_stop : (image : ImageView) (t : ℕ) (m : Moment) (h : History) → is_switch image m h ≡ false → is_stop image t m h ≡ false
quiet_no_stop image t m h e = rw e refl

quiet : (image : ImageView) (t p first total : ℕ) (begin : Tracing) (m : Moment) (h : History) → IsImage image → IsRun image h → Follows image h m →
    t < length image.loads → p ≤ length (controls image h) → is_switch image m h ≡ false → IsMet image t p first total begin h →
    IsMet image t p first total begin (m ∷ h)
quiet image t p first total begin m h i r f below before e x =
    let y : IsHalf image t p first total begin m h x.tracing = half image t p first total begin m h i r f below x in
    let no : is_stop image t m h ≡ false = quiet_no_stop image t m h e in
    record {
      tracing = x.tracing;
      met = λ more. ap (λ ds. meets (alone_with image t first total (drop first (entries t (m ∷ h)) ++ more)) ds (On begin)) (demands_quiet image t p m h e before)
          ∙ y.met more;
      leads = subst (λ os. Leads image t first total (m ∷ h) x.tracing.place os) (sym (pending_more image t m h e)) y.leads;
      rests = λ rests. y.rests (λ q. rests (runs_on image h m e ∙ q));
      start = x.start ∙ start_same image t p m h before;
      printed = x.printed ∙ sym (printed_stay image p t m h no before);
      stops = x.stops ∙ sym (stops_stay image p t m h no);
      few = y.few;
    }

-- what a moment's control entry demands of the task that it goes to is met where that stands
resumed : (image : ImageView) (t n : ℕ) (a : Alone) (m : Moment) (h : History) (x : Tracing) → IsImage image → t < length image.loads →
    x.place.standing ≡ standing_at image (m ∷ h) t → meets a (resumed_wanted t n (switch_at image m h)) (On x) ≡ On x
resumed image t n a m h x i below is = elim (cases_eq m.after.kernel.running t) [
  | inl mine ↦
      let at : Marker = marker_at image (m ∷ h) m.after.kernel.running in
      let same : marker_of x.place.standing ≡ at = ap marker_of is ∙ sym (marker_is image (m ∷ h) t i below) ∙ ap (marker_at image (m ∷ h)) (sym mine) in
      rw (eq-eqb m.after.kernel.running t mine)
      (meets_one a (record { seq = n; at = at; way = Stands }) [] (On x) ∙ meets_none a (meet a (record { seq = n; at = at; way = Stands }) (On x))
      ∙ meets_stands a n at x same)
  | inr other ↦ rw (ne_eqb m.after.kernel.running t other) (meets_none a (On x))
]

-- what it demands of the task that it comes from is met, where that leaves
left_met : (image : ImageView) (t n first total : ℕ) (outs : List OutputEntry) (more : List DataEntry) (m : Moment) (h : History) (x : Tracing) →
    IsImage image → Follows image h m → t < length image.loads → running_at image h ≡ t → Leads image t first total (m ∷ h) x.place outs →
    meets (alone_with image t first total (drop first (entries t (m ∷ h)) ++ more)) (left_wanted t n (switch_at image m h)) (On x)
    ≡ On (stopped t n x (here image t first (m ∷ h) outs) (cause_of m.deed))
left_met image t n first total outs more m h x i f below runs leads =
    let a : Alone = alone_with image t first total (drop first (entries t (m ∷ h)) ++ more) in
    let at : Marker = marker_at image (m ∷ h) (running_at image h) in
    let faults : Bool = is_fault (switch_at image m h).kind in
    let q : Place = here image t first (m ∷ h) outs in
    let d : Demand = record { seq = n; at = at; way = Leaves faults } in
    let same : marker_of (standing_at image (m ∷ h) t) ≡ at = sym (marker_is image (m ∷ h) t i below) ∙ ap (marker_at image (m ∷ h)) (sym runs) in
    let way : walk_to a at x.place ≡ Comes q = ap (λ (k : Marker). walk_to a k x.place) (sym same) ∙ comes image t first total (m ∷ h) x.place outs more leads in
    rw (eq-eqb (running_at image h) t runs)
    (meets_one a d [] (On x) ∙ meets_none a (meet a d (On x))
    ∙ elim (leaves_as image t m h runs (not_nobody image t i below) m.deed f.did) [
      | inl none ↦ meets_leaves a n at faults x q way same none.kind ∙ ap (λ c. On (stopped t n x q c)) (sym none.cause)
      | inr fault ↦ meets_faults a n at faults x q fault.cause way same fault.kind fault.faults ∙ ap (λ c. On (stopped t n x q c)) (sym fault.number)
    ])

-- another task's entry demands nothing of the task that leaves
none_left : (image : ImageView) (t n : ℕ) (a : Alone) (m : Moment) (h : History) (x : Tracing) → running_at image h ≢ t →
    meets a (left_wanted t n (switch_at image m h)) (On x) ≡ On x
none_left image t n a m h x rests = rw (ne_eqb (running_at image h) t rests) (meets_none a (On x))

-- the stop of a task at a moment, at this marker and with these words printed before
abbrev stop_with : ImageView → ℕ → Marker → List ℕ → Moment → History → Stop
stop_with image t at before m h = record {
  seq = length (controls image (m ∷ h));
  leave = record {
    cause = cause_of m.deed;
    view = record {
      task = t;
      at = at;
      regs = (body_at image (m ∷ h) t).regs;
      changed = changes before (body_at image (m ∷ h) t).words;
    };
    outputs = pending image t h ++ made t m.deed;
  };
}

stop_is : (image : ImageView) (t p : ℕ) (m : Moment) (h : History) (before : List ℕ) → IsImage image → t < length image.loads → running_at image h ≡ t →
    before ≡ printed image p t h → stop_with image t (marker_of (standing_at image (m ∷ h) t)) before m h ≡ stop_at image p m h
stop_is image t p m h before i below runs is =
    ap (λ b. stop_with image t (marker_of (standing_at image (m ∷ h) t)) b m h) is
    ∙ ap (λ k. stop_with image t k (printed image p t h) m h) (sym (marker_is image (m ∷ h) t i below))
    ∙ ap (λ k. stop_with image k (marker_at image (m ∷ h) k) (printed image p k h) m h) (sym runs)

both : (a b : Bool) → a ≡ true → b ≡ true → (a && b) ≡ true
both a b e f = rw (e, f) refl

-- the task leaves the processor
leaving : (image : ImageView) (t p first total : ℕ) (begin : Tracing) (m : Moment) (h : History) → IsImage image → IsRun image h → Follows image h m →
    t < length image.loads → p ≤ length (controls image h) → is_switch image m h ≡ true → running_at image h ≡ t →
    IsMet image t p first total begin h → IsMet image t p first total begin (m ∷ h)
leaving image t p first total begin m h i r f below before e runs x =
    let y : IsHalf image t p first total begin m h x.tracing = half image t p first total begin m h i r f below x in
    let n : ℕ = length (controls image (m ∷ h)) in
    let s : Switch = switch_at image m h in
    let outs : List OutputEntry = pending image t h ++ made t m.deed in
    let new : Tracing = stopped t n x.tracing (here image t first (m ∷ h) outs) (cause_of m.deed) in
    let stop : is_stop image t m h ≡ true = both (is_switch image m h) (running_at image h == t) e (eq-eqb (running_at image h) t runs) in
    record {
      tracing = new;
      met = λ more.
          (let a : Alone = alone_with image t first total (drop first (entries t (m ∷ h)) ++ more) in
          ap (λ ds. meets a ds (On begin)) (demands_more image t p m h e before)
          ∙ meets_append a (demands image t p h) (left_wanted t n s ++ resumed_wanted t n s) (On begin)
          ∙ ap (meets a (left_wanted t n s ++ resumed_wanted t n s)) (y.met more)
          ∙ meets_append a (left_wanted t n s) (resumed_wanted t n s) (On x.tracing)
          ∙ ap (meets a (resumed_wanted t n s)) (left_met image t n first total outs more m h x.tracing i f below runs y.leads)
          ∙ resumed image t n a m h new i below refl);
      leads = leads_here image t first total (m ∷ h) (here image t first (m ∷ h) []) (pending image t (m ∷ h))
          (ap (here image t first (m ∷ h)) (sym (pending_none image t m h e)));
      rests = λ rests. refl;
      start = x.start ∙ start_same image t p m h before;
      printed = sym (printed_stop image p t m h stop before);
      stops = ap (λ ss. ss ++ stop_with image t (marker_of (standing_at image (m ∷ h) t)) x.tracing.printed m h ∷ []) x.stops
          ∙ ap (λ (k : Stop). run_stops image p t h ++ k ∷ []) (stop_is image t p m h x.tracing.printed i below runs x.printed)
          ∙ sym (stops_more image p t m h stop before);
      few = y.few;
    }

-- another task leaves it, or nobody
resting : (image : ImageView) (t p first total : ℕ) (begin : Tracing) (m : Moment) (h : History) → IsImage image → IsRun image h → Follows image h m →
    t < length image.loads → p ≤ length (controls image h) → is_switch image m h ≡ true → running_at image h ≢ t →
    IsMet image t p first total begin h → IsMet image t p first total begin (m ∷ h)
resting image t p first total begin m h i r f below before e rests x =
    let y : IsHalf image t p first total begin m h x.tracing = half image t p first total begin m h i r f below x in
    let n : ℕ = length (controls image (m ∷ h)) in
    let s : Switch = switch_at image m h in
    let no : is_stop image t m h ≡ false = no_stop image m h t rests in
    record {
      tracing = x.tracing;
      met = λ more.
          (let a : Alone = alone_with image t first total (drop first (entries t (m ∷ h)) ++ more) in
          ap (λ ds. meets a ds (On begin)) (demands_more image t p m h e before)
          ∙ meets_append a (demands image t p h) (left_wanted t n s ++ resumed_wanted t n s) (On begin)
          ∙ ap (meets a (left_wanted t n s ++ resumed_wanted t n s)) (y.met more)
          ∙ meets_append a (left_wanted t n s) (resumed_wanted t n s) (On x.tracing)
          ∙ ap (meets a (resumed_wanted t n s)) (none_left image t n a m h x.tracing rests)
          ∙ resumed image t n a m h x.tracing i below (ap (λ (q : Place). q.standing) (y.rests rests)));
      leads = subst (λ os. Leads image t first total (m ∷ h) x.tracing.place os) (y.none rests ∙ sym (pending_none image t m h e)) y.leads;
      rests = λ _. y.rests rests;
      start = x.start ∙ start_same image t p m h before;
      printed = x.printed ∙ sym (printed_stay image p t m h no before);
      stops = x.stops ∙ sym (stops_stay image p t m h no);
      few = y.few;
    }

-- one moment on
pub met_on : (image : ImageView) (t p first total : ℕ) (begin : Tracing) (m : Moment) (h : History) → IsImage image → IsRun image h → Follows image h m →
    t < length image.loads → p ≤ length (controls image h) → IsMet image t p first total begin h → IsMet image t p first total begin (m ∷ h)
met_on image t p first total begin m h i r f below before x = elim (cases_Bool (is_switch image m h)) [
  | inl e ↦ elim (cases_eq (running_at image h) t) [
    | inl runs ↦ leaving image t p first total begin m h i r f below before e runs x
    | inr rests ↦ resting image t p first total begin m h i r f below before e rests x
  ]
  | inr e ↦ quiet image t p first total begin m h i r f below before e x
]
