-- The replay of each task from the window of a run tells what the task did in the run.
use Rattle.std.proofs.Common.{◌≡◌, ℕ, zero, suc, ◌+◌, ◌<◌, ◌≤◌, Bool, true, false, ◌&&◌, nat_le, List, [], ◌∷◌, ◌++◌, length, drop, refl, ap, sym, ◌∙◌, subst, arith, inl, inr, Option, Some, slice_get, Ok, append-nil, length-append}
use Rattle.std.proofs.lemmas.Bool.{cases_Bool, cases_eq, cases_lt, eq-eqb, ne_eqb, lt-leb}
use Rattle.std.proofs.lemmas.List.{drop_all}
use Rattle.tm_marker.specs.declared.marker.Marker.{Marker}
use Rattle.tm_marker.specs.declared.entries.DataEntry.{DataEntry}
use Rattle.tm_marker.specs.declared.entries.OutputEntry.{OutputEntry}
use Rattle.tm_marker.specs.declared.entries.Switch.{Switch}
use Rattle.tm_ring.specs.Kept.{Kept}
use Rattle.tm_check.specs.Checkpoint.{Checkpoint, check_of}
use Rattle.tm_log.specs.Window.{log_of, checks_of}
use Rattle.tm_log.specs.Points.{tail_marker, marker_at_point, entries_from}
use Rattle.tm_task.specs.Standing.{Standing, marker_of}
use Rattle.tm_task.specs.Place.{Place, start_place}
use Rattle.tm_spelling.specs.Story.{View, changes, nonzero}
use Rattle.tm_spelling.specs.Tracks.{Stop, Track}
use Rattle.tm_image.specs.Image.{ImageView, IsImage, words_of}
use Rattle.tm_system.specs.History.{Moment, History}
use Rattle.tm_system.specs.Run.{running_at, body_at}
use Rattle.tm_system.specs.Marks.{epochs, standing_at, marker_at}
use Rattle.tm_system.specs.Controls.{controls, is_switch, switch_at, entries, checkpoints}
use Rattle.tm_system.specs.Telling.{upto, is_stop, printed, pending, start_at}
use Rattle.tm_system.specs.Accepted.{IsPointKept, CanGoOnFrom, IsAccepted}
use Rattle.tm_system.specs.Follows.{IsRun, Boots, GoesOn}
use Rattle.tm_system.specs.WindowOf.{last_items, window_of}
use Rattle.tm_system.specs.Alone.{Alone, Comes, walk_to}
use Rattle.tm_system.specs.Wanted.{Demand, Stands, Runs, last_wanted, wanted_by, start_wanted}
use Rattle.tm_system.specs.Tracing.{Tracing, Going, On, begun, seen_first, meet, meets, all_used, closed, track_of}
use Rattle.tm_system.specs.Replaying.{replayed_from, replayed_in, replayed_task}
use Rattle.tm_system.proofs.Texts.{controls_more, controls_stay, pending_none}
use Rattle.tm_system.proofs.Meeting.{meets_one, meets_none, meets_append, wanted_none}
use Rattle.tm_fidelity.proofs.Upto.{upto_before, upto_here, boot_upto, here as at_point, no_controls, upto_run}
use Rattle.tm_fidelity.proofs.Points.{marker_is}
use Rattle.tm_fidelity.proofs.Blocks.{controls_rise}
use Rattle.tm_fidelity.proofs.Reading.{rest_is, check_kept, log_is, tail_is, markers_are_of_points}
use Rattle.tm_fidelity.proofs.Accepting.{read_check}
use Rattle.tm_fidelity.proofs.Outputs.{boot_pending}
use Rattle.tm_fidelity.proofs.Tracks.{run_stops, run_track, stops_boot}
use Rattle.tm_fidelity.proofs.Resting.{rests_pending, boot_printed, printed_before}
use Rattle.tm_fidelity.proofs.Moving.{alone_with, here}
use Rattle.tm_fidelity.proofs.Ways.{Leads, leads_here, Way, way, check_stays}
use Rattle.tm_fidelity.proofs.Meetings.{meets_start, meets_runs, meets_stands}
use Rattle.tm_fidelity.proofs.Demands.{demands, IsMet, comes, met_on}

-- no stop is before the point
stops_before : (image : ImageView) (p t : ℕ) (m : Moment) (h : History) → length (controls image h) < p →
    run_stops image p t (m ∷ h) ≡ run_stops image p t h
unfolding run_stops
stops_before image p t m h later = rw (neither (is_stop image t m h) (nat_le p (length (controls image h))) (lt-leb p (length (controls image h)) later)) refl
  where
    neither : (a b : Bool) → b ≡ false → (a && b) ≡ false
    neither true b e = e
    neither false b e = refl

no_stops : (image : ImageView) (p t : ℕ) (h : History) → length (controls image h) < p → run_stops image p t h ≡ []
no_stops image p t [] few = stops_boot image p t
no_stops image p t (m ∷ h) few =
    let before : length (controls image h) < p = omega (arith, few, controls_rise image m h) in
    stops_before image p t m h before ∙ no_stops image p t h before

-- at the point: all tasks are printed as they stand, and nothing has happened since
record IsPoint (image : ImageView) (t p : ℕ) (g : History) : Type 0 where
  upto : upto image p g ≡ g
  entries : drop p (controls image g) ≡ []
  printed : printed image p t g ≡ (body_at image g t).words
  stops : run_stops image p t g ≡ []
  pending : pending image t g ≡ []

boot_point : (image : ImageView) (t p : ℕ) → p ≤ length (controls image []) → IsPoint image t p []
boot_point image t p reached = record {
  upto = boot_upto image p;
  entries = drop_all p (controls image []) (omega (arith, ap length (no_controls image)));
  printed = boot_printed image p t;
  stops = stops_boot image p t;
  pending = boot_pending image t;
}

controls_few : (image : ImageView) (m : Moment) (h : History) → length (controls image (m ∷ h)) ≤ length (controls image h) + 1
controls_few image m h = elim (cases_Bool (is_switch image m h)) [
  | inl e ↦ omega (arith, ap length (controls_more image m h e), length-append (controls image h) (switch_at image m h ∷ []))
  | inr e ↦ omega (arith, ap length (controls_stay image m h e))
]

later_point : (image : ImageView) (t p : ℕ) (m : Moment) (h : History) → length (controls image h) < p → p ≤ length (controls image (m ∷ h)) →
    IsPoint image t p (m ∷ h)
later_point image t p m h later reached =
    let at = at_point image p m h later reached in
    record {
      upto = upto_here image p m h later;
      entries = drop_all p (controls image (m ∷ h)) (omega (arith, at.number, controls_few image m h));
      printed = printed_before image p t m h later;
      stops = stops_before image p t m h later ∙ no_stops image p t h later;
      pending = pending_none image t m h at.switch;
    }

-- a task as it is printed at the point
start_is : (image : ImageView) (g : History) (t : ℕ) → IsImage image → t < length image.loads → seen_first t (standing_at image g t) ≡ start_at image g t
start_is image g t i below =
    ap (λ (k : Marker). (let v : View = record {
      task = t;
      at = k;
      regs = (body_at image g t).regs;
      changed = nonzero (body_at image g t).words;
    } in v)) (sym (marker_is image g t i below))

-- a task that comes by its checkpoint's way to where it stands at the point has met what the point demands
point_met : (image : ImageView) (t p first total : ℕ) (begin : Tracing) (outs : List OutputEntry) (g : History) → IsImage image → t < length image.loads →
    first ≤ length (entries t g) → IsPoint image t p g → Leads image t first total g begin.place outs → IsMet image t p first total begin g
point_met image t p first total begin outs g i below few at leads = record {
  tracing = begun t (here image t first g outs);
  met = λ more.
      (let a : Alone = alone_with image t first total (drop first (entries t g) ++ more) in
      let first_demand : Demand = start_wanted p (marker_of (standing_at image g t)) in
      ap (λ (k : History). meets a (start_wanted p (marker_of (standing_at image k t)) ∷ wanted_by t (p + 1) (drop p (controls image g))) (On begin)) at.upto
      ∙ ap (λ (cs : List Switch). meets a (first_demand ∷ wanted_by t (p + 1) cs) (On begin)) at.entries
      ∙ ap (λ ds. meets a (first_demand ∷ ds) (On begin)) (wanted_none t (p + 1))
      ∙ meets_one a first_demand [] (On begin) ∙ meets_none a (meet a first_demand (On begin))
      ∙ meets_start a p (marker_of (standing_at image g t)) begin (here image t first g outs) (comes image t first total g begin.place outs more leads) refl);
  leads = leads_here image t first total g (here image t first g []) (pending image t g) (ap (here image t first g) (sym at.pending));
  rests = λ _. refl;
  start = start_is image g t i below ∙ ap (λ (k : History). start_at image k t) (sym at.upto);
  printed = sym at.printed;
  stops = sym at.stops;
  few = few;
}

-- from the point on, to the latest moment
pub met_from : (image : ImageView) (t p total : ℕ) (c : Checkpoint) (epoch : ℕ) (outs : List OutputEntry) (h : History) → IsImage image → IsRun image h →
    t < length image.loads → p ≤ length (controls image h) → c.data_number ≤ length (entries t (upto image p h)) →
    Leads image t c.data_number total (upto image p h) (start_place c.body epoch) outs →
    IsMet image t p c.data_number total (begun t (start_place c.body epoch)) h
met_from image t p total c epoch outs [] i Boots below reached few leads =
    point_met image t p c.data_number total (begun t (start_place c.body epoch)) outs [] i below
    (subst (λ (g : History). c.data_number ≤ length (entries t g)) (boot_upto image p) few) (boot_point image t p reached)
    (subst (λ (g : History). Leads image t c.data_number total g (start_place c.body epoch) outs) (boot_upto image p) leads)
met_from image t p total c epoch outs (m ∷ h) i (GoesOn r f) below reached few leads = elim (cases_lt (length (controls image h)) p) [
  | inl later ↦
      point_met image t p c.data_number total (begun t (start_place c.body epoch)) outs (m ∷ h) i below
      (subst (λ (g : History). c.data_number ≤ length (entries t g)) (upto_here image p m h later) few) (later_point image t p m h later reached)
      (subst (λ (g : History). Leads image t c.data_number total g (start_place c.body epoch) outs) (upto_here image p m h later) leads)
  | inr before ↦
      met_on image t p c.data_number total (begun t (start_place c.body epoch)) m h i r f below before
      (met_from image t p total c epoch outs h i r below before
      (subst (λ (g : History). c.data_number ≤ length (entries t g)) (upto_before image p m h before) few)
      (subst (λ (g : History). Leads image t c.data_number total g (start_place c.body epoch) outs) (upto_before image p m h before) leads))
]

check_later : (image : ImageView) (t p k : ℕ) (c : Checkpoint) (h : History) → slice_get (checkpoints image t (upto image p h)) k ≡ Some c →
    slice_get (checkpoints image t h) k ≡ Some c
check_later image t p k c [] is = ap (λ (g : History). slice_get (checkpoints image t g) k) (sym (boot_upto image p)) ∙ is
check_later image t p k c (m ∷ h) is = elim (cases_lt (length (controls image h)) p) [
  | inl later ↦ ap (λ (g : History). slice_get (checkpoints image t g) k) (sym (upto_here image p m h later)) ∙ is
  | inr before ↦
      check_stays image t k c m h (check_later image t p k c h
      (ap (λ (g : History). slice_get (checkpoints image t g) k) (sym (upto_before image p m h before)) ∙ is))
]

-- what a text tells of a task, by its parts
abbrev track_with : View → List Stop → ℕ → Marker → Standing → List ℕ → List OutputEntry → Track
track_with start stops task at s before outs = record {
  start = start;
  stops = stops;
  last = record { task = task; at = at; regs = s.body.regs; changed = changes before s.body.words };
  outputs = outs;
}

-- a tracing that has come to where the task stands tells what the task did
track_is : (image : ImageView) (p t : ℕ) (h : History) (x : Tracing) → IsImage image → t < length image.loads →
    x.start ≡ start_at image (upto image p h) t → x.stops ≡ run_stops image p t h → x.printed ≡ printed image p t h →
    x.place.standing ≡ standing_at image h t → x.place.made ≡ pending image t h → track_of x ≡ run_track image p h t
track_is image p t h x i below start stops before standing outs =
    ap (λ v. track_with v x.stops v.task (marker_of x.place.standing) x.place.standing x.printed x.place.made) start
    ∙ ap (λ ss. track_with (start_at image (upto image p h) t) ss t (marker_of x.place.standing) x.place.standing x.printed x.place.made) stops
    ∙ ap (λ (s : Standing). track_with (start_at image (upto image p h) t) (run_stops image p t h) t (marker_of s) s x.printed x.place.made) standing
    ∙ ap (λ k. track_with (start_at image (upto image p h) t) (run_stops image p t h) t k (standing_at image h t) x.printed x.place.made)
    (sym (marker_is image h t i below))
    ∙ ap (λ ws. track_with (start_at image (upto image p h) t) (run_stops image p t h) t (marker_at image h t) (standing_at image h t) ws x.place.made) before
    ∙ ap (track_with (start_at image (upto image p h) t) (run_stops image p t h) t (marker_at image h t) (standing_at image h t) (printed image p t h)) outs

-- the end of a task's replay
record IsClosed (image : ImageView) (t p seq : ℕ) (a : Alone) (h : History) (x : Tracing) : Type 0 where
  tracing : Tracing
  is : closed a (last_wanted t seq (running_at image h) (marker_of (standing_at image h t)))
      (meets a (last_wanted t seq (running_at image h) (marker_of (standing_at image h t)) ∷ []) (On x)) ≡ Ok tracing
  standing : tracing.place.standing ≡ standing_at image h t
  track : track_of tracing ≡ run_track image p h t

used_all : (a : Alone) (d : Demand) (x : Tracing) → x.place.used ≡ length a.log → all_used a d x ≡ Ok x
used_all a d x all = rw (eq-eqb x.place.used (length a.log) all) refl

closing : (image : ImageView) (t p first total seq : ℕ) (begin : Tracing) (h : History) → IsImage image → IsRun image h → t < length image.loads →
    (x : IsMet image t p first total begin h) → IsClosed image t p seq (alone_with image t first total (drop first (entries t h))) h x.tracing
closing image t p first total seq begin h i r below x =
    let a : Alone = alone_with image t first total (drop first (entries t h)) in
    let at : Marker = marker_of (standing_at image h t) in
    let d : Demand = last_wanted t seq (running_at image h) at in
    elim (cases_eq (running_at image h) t) [
      | inl runs ↦
          let end : Place = here image t first h (pending image t h) in
          let new : Tracing = record x.tracing { place = end } in
          let way : d ≡ record { seq = seq; at = at; way = Runs } = rw (eq-eqb (running_at image h) t runs) refl in
          let to : walk_to a at x.tracing.place ≡ Comes end =
          subst (λ l. walk_to (alone_with image t first total l) at x.tracing.place ≡ Comes end) (append-nil (drop first (entries t h)))
          (comes image t first total h x.tracing.place (pending image t h) [] x.leads) in
          record {
            tracing = new;
            is = ap (closed a d)
                (meets_one a d [] (On x.tracing) ∙ meets_none a (meet a d (On x.tracing)) ∙ ap (λ k. meet a k (On x.tracing)) way
                ∙ meets_runs a seq at x.tracing end to refl)
                ∙ used_all a d new refl;
            standing = refl;
            track = track_is image p t h new i below x.start x.stops x.printed refl refl;
          }
      | inr rests ↦
          let place : x.tracing.place ≡ here image t first h [] = x.rests rests in
          let way : d ≡ record { seq = seq; at = at; way = Stands } = rw (ne_eqb (running_at image h) t rests) refl in
          let standing : x.tracing.place.standing ≡ standing_at image h t = ap (λ (q : Place). q.standing) place in
          record {
            tracing = x.tracing;
            is = ap (closed a d)
                (meets_one a d [] (On x.tracing) ∙ meets_none a (meet a d (On x.tracing)) ∙ ap (λ k. meet a k (On x.tracing)) way
                ∙ meets_stands a seq at x.tracing (ap marker_of standing))
                ∙ used_all a d x.tracing (ap (λ (q : Place). q.used) place);
            standing = standing;
            track = track_is image p t h x.tracing i below x.start x.stops x.printed standing
                (ap (λ (q : Place). q.made) place ∙ sym (rests_pending image h t r rests));
          }
    ]

-- a task's replay from lists that are kept far enough
from_is : (image : ImageView) (t p cap logs : ℕ) (c : Checkpoint) (h : History) → length (controls image h) ≤ p + cap →
    length (entries t h) ≤ c.data_number + logs →
    replayed_from image t p (last_items cap (controls image h)) (running_at image h) (marker_of (standing_at image (upto image p h) t))
    (marker_of (standing_at image h t)) (last_items logs (entries t h)) c ≡
    closed (alone_with image t c.data_number (length (entries t h)) (drop c.data_number (entries t h)))
    (last_wanted t (length (controls image h) + 1) (running_at image h) (marker_of (standing_at image h t)))
    (meets (alone_with image t c.data_number (length (entries t h)) (drop c.data_number (entries t h)))
    (demands image t p h ++ last_wanted t (length (controls image h) + 1) (running_at image h) (marker_of (standing_at image h t)) ∷ [])
    (On (begun t (start_place c.body (epochs t (upto image p h))))))
unfolding replayed_from
from_is image t p cap logs c h kept all =
    let start : Demand = start_wanted p (marker_of (standing_at image (upto image p h) t)) in
    let last : Demand = last_wanted t (length (controls image h) + 1) (running_at image h) (marker_of (standing_at image h t)) in
    let begin : Going = On (begun t (start_place c.body (epochs t (upto image p h)))) in
    ap (λ l. closed (alone_with image t c.data_number (length (entries t h)) l) last
    (meets (alone_with image t c.data_number (length (entries t h)) l)
    (start ∷ (wanted_by t (p + 1) (entries_from (last_items cap (controls image h)) p) ++ last ∷ [])) begin))
    (rest_is logs (entries t h) c.data_number all)
    ∙ ap (λ cs. closed (alone_with image t c.data_number (length (entries t h)) (drop c.data_number (entries t h))) last
    (meets (alone_with image t c.data_number (length (entries t h)) (drop c.data_number (entries t h)))
    (start ∷ (wanted_by t (p + 1) cs ++ last ∷ [])) begin))
    (rest_is cap (controls image h) p kept)

-- the replay of a task tells what it did, and ends where it stands
pub record IsTraced (image : ImageView) (h : History) (p t : ℕ) : Type 0 where
  pub tracing : Tracing
  pub is : replayed_task image (window_of image h) p t ≡ Ok tracing
  pub standing : tracing.place.standing ≡ standing_at image h t
  pub track : track_of tracing ≡ run_track image p h t

-- what of the window a replay reads, one look-up after another
reads : (image : ImageView) (h : History) (p t : ℕ) (c : Checkpoint) → IsImage image → IsRun image h → p ≤ length (controls image h) →
    IsPointKept image h p → t < length image.loads →
    check_of (checks_of (window_of image h) t) (marker_at_point (window_of image h) p t).epoch ≡ Some c →
    replayed_task image (window_of image h) p t ≡
    replayed_from image t p (last_items image.caps.control (controls image h)) (running_at image h) (marker_of (standing_at image (upto image p h) t))
    (marker_of (standing_at image h t)) (last_items image.caps.logs (entries t h)) c
reads image h p t c i r reached kept below there =
    let control : Kept Switch = last_items image.caps.control (controls image h) in
    let running : ℕ = running_at image h in
    let start : Marker = marker_at_point (window_of image h) p t in
    let last : Marker = tail_marker (window_of image h) t in
    let log : Kept DataEntry = log_of (window_of image h) t in
    ap (replayed_in image t p control running start last log) there
    ∙ ap (λ at. replayed_from image t p control running at last log c) (markers_are_of_points image h p t i r reached kept below)
    ∙ ap (λ at. replayed_from image t p control running (marker_of (standing_at image (upto image p h) t)) at log c) (tail_is image h t below)
    ∙ ap (λ l. replayed_from image t p control running (marker_of (standing_at image (upto image p h) t)) (marker_of (standing_at image h t)) l c)
    (log_is image h t below)

point_within : (image : ImageView) (h : History) (p : ℕ) → IsPointKept image h p → length (controls image h) ≤ p + image.caps.control
point_within image h zero kept = omega (arith, kept)
point_within image h (suc number) kept = omega (arith, kept)

log_within : (image : ImageView) (h : History) (t epoch : ℕ) → (c : CanGoOnFrom image h t epoch) →
    length (entries t h) ≤ c.check.data_number + image.caps.logs
log_within image h t epoch c = elim (cases_lt c.check.data_number (length (entries t h))) [
  | inl some ↦ c.entries c.check.data_number (omega arith) some
  | inr none ↦ omega (arith, none)
]

same_check : (o : Option Checkpoint) (c d : Checkpoint) → o ≡ Some c → o ≡ Some d → c ≡ d
same_check o c d is was = cc

-- from a checkpoint whose way leads to where the task stands at the point
traced_by : (image : ImageView) (h : History) (p t : ℕ) (c : Checkpoint) (outs : List OutputEntry) → IsImage image → IsRun image h →
    p ≤ length (controls image h) → IsPointKept image h p → t < length image.loads →
    check_of (checks_of (window_of image h) t) (marker_at_point (window_of image h) p t).epoch ≡ Some c →
    length (entries t h) ≤ c.data_number + image.caps.logs → c.data_number ≤ length (entries t (upto image p h)) →
    Leads image t c.data_number (length (entries t h)) (upto image p h) (start_place c.body (epochs t (upto image p h))) outs →
    IsTraced image h p t
traced_by image h p t c outs i r reached kept below there all few leads =
    let total : ℕ = length (entries t h) in
    let seq : ℕ = length (controls image h) + 1 in
    let begin : Tracing = begun t (start_place c.body (epochs t (upto image p h))) in
    let a : Alone = alone_with image t c.data_number total (drop c.data_number (entries t h)) in
    let d : Demand = last_wanted t seq (running_at image h) (marker_of (standing_at image h t)) in
    let x : IsMet image t p c.data_number total begin h =
    met_from image t p total c (epochs t (upto image p h)) outs h i r below reached few leads in
    let y : IsClosed image t p seq a h x.tracing = closing image t p c.data_number total seq begin h i r below x in
    let met : meets a (demands image t p h) (On begin) ≡ On x.tracing =
    subst (λ l. meets (alone_with image t c.data_number total l) (demands image t p h) (On begin) ≡ On x.tracing)
    (append-nil (drop c.data_number (entries t h))) (x.met []) in
    record {
      tracing = y.tracing;
      is = reads image h p t c i r reached kept below there
          ∙ from_is image t p image.caps.control image.caps.logs c h (point_within image h p kept) all
          ∙ ap (closed a d) (meets_append a (demands image t p h) (d ∷ []) (On begin) ∙ ap (meets a (d ∷ [])) met)
          ∙ y.is;
      standing = y.standing;
      track = y.track;
    }

pub traced : (image : ImageView) (h : History) (p t : ℕ) → IsImage image → IsRun image h → IsAccepted image h p → t < length image.loads →
    IsTraced image h p t
traced image h p t i r a below =
    let epoch : ℕ = epochs t (upto image p h) in
    let c = a.tasks t below in
    let w : Way image t (upto image p h) epoch = way image t (upto image p h) epoch i (upto_run image p h r) below (omega arith) in
    let same : w.check ≡ c.check = same_check (slice_get (checkpoints image t h) epoch) w.check c.check (check_later image t p epoch w.check h w.taken) c.taken in
    let there : check_of (checks_of (window_of image h) t) (marker_at_point (window_of image h) p t).epoch ≡ Some c.check =
    read_check image h p t i r a.reached a.entry below
    ∙ check_kept image.caps.checks (length (words_of image t)) (checkpoints image t h) epoch c.kept ∙ c.taken in
    traced_by image h p t c.check w.outs i r a.reached a.entry below there (log_within image h t epoch c)
    (subst (λ (k : Checkpoint). k.data_number ≤ length (entries t (upto image p h))) same w.few)
    (subst (λ (k : Checkpoint). Leads image t k.data_number (length (entries t h)) (upto image p h) (start_place k.body epoch) w.outs) same
    (w.leads (length (entries t h))))
