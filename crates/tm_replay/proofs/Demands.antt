-- The demands on a task, met one after another.
use Rattle.std.proofs.Common.{◌≡◌, ℕ, ◌+◌, ◌-◌, ◌<◌, ◌≤◌, Bool, true, false, ◌==◌, [], ◌∷◌, ◌++◌, length, slice_get, get_or, Some, Result, Ok, Err, refl, ap, sym, subst, ◌∙◌}
use Rattle.std.specs.Prelude.{OnOk}
use Rattle.std.proofs.lemmas.Bool.{eq-eqb, ne_eqb}
use Rattle.std.proofs.lemmas.Option.{slice_get_within, get_or_from_slice_get}
use Rattle.tm_marker.specs.Order.{marker_eq}
use Rattle.tm_marker.specs.declared.entries.Kind.{Kind}
use Rattle.tm_marker.specs.declared.entries.Kind.TheVariants.{Preempted, Waits, Ends, Fault, Shutdown, Idle}
use Rattle.tm_marker.specs.declared.entries.Switch.{Switch}
use Rattle.tm_marker.specs.declared.marker.Marker.{Marker}
use Rattle.tm_ring.specs.Kept.{Kept, first_of, item_of}
use Rattle.tm_log.specs.Points.{entries_from}
use Rattle.tm_log.proofs.Reading.{there_at, items_at, items_past}
use Rattle.tm_task.specs.Exec.{exec}
use Rattle.tm_task.specs.Place.{Place}
use Rattle.tm_task.specs.Standing.{marker_of}
use Rattle.tm_system.specs.Alone.{Alone, Comes, Sticks, walk_to}
use Rattle.tm_system.specs.Tracing.{Tracing, Going, On, Off, meet, meets, meet_at, meet_walk, meet_fault, stopped, begun}
use Rattle.tm_system.specs.Wanted.{Way, Starts, Leaves, Stands, Runs, Demand, wanted_by, left_wanted, resumed_wanted, last_wanted, is_fault}
use Rattle.tm_system.specs.declared.diverged.Diverged.{Diverged}
use Rattle.tm_system.specs.declared.diverged.Why.{Why}
use Rattle.tm_system.specs.declared.diverged.Why.TheVariants.{Passed, Moved}
use Rattle.tm_system.proofs.Meeting.{meet_on, meets_none, meets_one, meets_append, meets_off, wanted_none, wanted_one}
use Rattle.tm_replay.specs.declared.fault.ReplayFault.{ReplayFault}
use Rattle.tm_replay.specs.declared.fault.ReplayFault.TheVariants.{Lost, Memory, Diverged as HasDiverged}
use Rattle.tm_replay.specs.declared.tracer.Tracer.{Tracer}
use Rattle.tm_replay.specs.declared.walker.Walker.{Walker}
use Rattle.tm_replay.specs.Meeting.{tracing_of, IsTracer, Met, LeavesBefore}
use Rattle.tm_replay.specs.Walking.{diverged_at, alone_of, place_of, IsSound, Reached, Stood, DidFault}

abbrev demand : ℕ → Marker → Way → Demand
demand seq wanted way = record { seq = seq; at = wanted; way = way }

-- a task that sticks before the marker, or is past it, does not meet the demand
pub stuck : (a b : Alone) (seq : ℕ) (wanted : Marker) (p q : Place) (why : Why) → walk_to a wanted p ≡ Sticks q why → b ≡ a →
    (way : Way) (t : Tracing) → meet_walk a (demand seq wanted way) t (walk_to a wanted p) ≡ Off (diverged_at b seq wanted q.standing why)
stuck a b seq wanted p q why walked same way t =
    ap (meet_walk a (demand seq wanted way) t) walked
    ∙ ap (λ x. Off (diverged_at x seq wanted q.standing why)) (sym same)

pub passed : (a b : Alone) (seq : ℕ) (wanted : Marker) (p q : Place) → walk_to a wanted p ≡ Comes q →
    marker_eq (marker_of q.standing) wanted ≡ false → b ≡ a → (way : Way) (t : Tracing) →
    meet_walk a (demand seq wanted way) t (walk_to a wanted p) ≡ Off (diverged_at b seq wanted q.standing Passed)
passed a b seq wanted p q walked differs same way t =
    ap (meet_walk a (demand seq wanted way) t) walked
    ∙ rw differs (ap (λ x. Off (diverged_at x seq wanted q.standing Passed)) (sym same))

-- a task that has come to the marker
come : (a : Alone) (d : Demand) (t : Tracing) (q : Place) → walk_to a d.at t.place ≡ Comes q →
    marker_eq (marker_of q.standing) d.at ≡ true → meet_walk a d t (walk_to a d.at t.place) ≡ meet_at a d t q d.way
come a d t q walked at = ap (meet_walk a d t) walked ∙ rw at refl

pub starts : (a : Alone) (seq : ℕ) (wanted : Marker) (t : Tracing) (q : Place) → walk_to a wanted t.place ≡ Comes q →
    marker_eq (marker_of q.standing) wanted ≡ true → meet a (demand seq wanted Starts) (On t) ≡ On (begun a.task q)
starts a seq wanted t q walked at = meet_on a (demand seq wanted Starts) t ∙ come a (demand seq wanted Starts) t q walked at

pub leaves : (a : Alone) (seq : ℕ) (wanted : Marker) (t : Tracing) (q : Place) → walk_to a wanted t.place ≡ Comes q →
    marker_eq (marker_of q.standing) wanted ≡ true → meet a (demand seq wanted (Leaves false)) (On t) ≡ On (stopped a.task seq t q 0)
leaves a seq wanted t q walked at =
    meet_on a (demand seq wanted (Leaves false)) t ∙ come a (demand seq wanted (Leaves false)) t q walked at

pub faults : (a : Alone) (seq : ℕ) (wanted : Marker) (t : Tracing) (q : Place) (g : Going) → walk_to a wanted t.place ≡ Comes q →
    marker_eq (marker_of q.standing) wanted ≡ true →
    meet_fault a (demand seq wanted (Leaves true)) t q (exec a.text q.standing.body) ≡ g →
    meet a (demand seq wanted (Leaves true)) (On t) ≡ g
faults a seq wanted t q g walked at does =
    meet_on a (demand seq wanted (Leaves true)) t ∙ come a (demand seq wanted (Leaves true)) t q walked at ∙ does

pub runs : (a : Alone) (seq : ℕ) (wanted : Marker) (t : Tracing) (q : Place) → walk_to a wanted t.place ≡ Comes q →
    marker_eq (marker_of q.standing) wanted ≡ true → meet a (demand seq wanted Runs) (On t) ≡ On (record t { place = q })
runs a seq wanted t q walked at = meet_on a (demand seq wanted Runs) t ∙ come a (demand seq wanted Runs) t q walked at

-- one that does not come to it
pub leaves_not : (a : Alone) (seq : ℕ) (wanted : Marker) (t : Tracing) (f : Bool) (x : Diverged) →
    meet_walk a (demand seq wanted (Leaves f)) t (walk_to a wanted t.place) ≡ Off x → meet a (demand seq wanted (Leaves f)) (On t) ≡ Off x
leaves_not a seq wanted t f x not = meet_on a (demand seq wanted (Leaves f)) t ∙ not

pub runs_not : (a : Alone) (seq : ℕ) (wanted : Marker) (t : Tracing) (x : Diverged) →
    meet_walk a (demand seq wanted Runs) t (walk_to a wanted t.place) ≡ Off x → meet a (demand seq wanted Runs) (On t) ≡ Off x
runs_not a seq wanted t x not = meet_on a (demand seq wanted Runs) t ∙ not

pub starts_not : (a : Alone) (seq : ℕ) (wanted : Marker) (t : Tracing) (x : Diverged) →
    meet_walk a (demand seq wanted Starts) t (walk_to a wanted t.place) ≡ Off x → meet a (demand seq wanted Starts) (On t) ≡ Off x
starts_not a seq wanted t x not = meet_on a (demand seq wanted Starts) t ∙ not

-- a task that stands at the marker, or does not
pub stands : (a : Alone) (seq : ℕ) (wanted : Marker) (t : Tracing) → marker_eq (marker_of t.place.standing) wanted ≡ true →
    meet a (demand seq wanted Stands) (On t) ≡ On t
stands a seq wanted t at = meet_on a (demand seq wanted Stands) t ∙ rw at refl

pub stands_not : (a : Alone) (seq : ℕ) (wanted : Marker) (t : Tracing) (x : Diverged) → marker_eq (marker_of t.place.standing) wanted ≡ false →
    x ≡ diverged_at a seq wanted t.place.standing Moved → meet a (demand seq wanted Stands) (On t) ≡ Off x
stands_not a seq wanted t x differs is = meet_on a (demand seq wanted Stands) t ∙ rw differs (ap Off (sym is))

-- a single demand
pub meets_single : (a : Alone) (d : Demand) (g : Going) → meets a (d ∷ []) g ≡ meet a d g
meets_single a d g = meets_one a d [] g ∙ meets_none a (meet a d g)

-- what a control entry demands of the task that it comes from, and of the one that it goes to
pub left_here : (task seq : ℕ) (entry : Switch) (f : Bool) → entry.from ≡ task → is_fault entry.kind ≡ f →
    left_wanted task seq entry ≡ demand seq entry.from_at (Leaves f) ∷ []
left_here task seq entry f own kind = let same : (entry.from == task) ≡ true = eq-eqb entry.from task own in rw same (ap (λ x. demand seq entry.from_at (Leaves x) ∷ []) kind)

pub left_other : (a : Alone) (task seq : ℕ) (entry : Switch) (g : Going) → (entry.from ≡ task → ⊥) → meets a (left_wanted task seq entry) g ≡ g
left_other a task seq entry g other = let differs : (entry.from == task) ≡ false = ne_eqb entry.from task other in rw differs (meets_none a g)

pub resumed_here : (a : Alone) (task seq : ℕ) (entry : Switch) (g : Going) → entry.to ≡ task →
    meets a (resumed_wanted task seq entry) g ≡ meet a (demand seq entry.to_at Stands) g
resumed_here a task seq entry g own = let same : (entry.to == task) ≡ true = eq-eqb entry.to task own in rw same (meets_single a (demand seq entry.to_at Stands) g)

pub resumed_other : (a : Alone) (task seq : ℕ) (entry : Switch) (g : Going) → (entry.to ≡ task → ⊥) → meets a (resumed_wanted task seq entry) g ≡ g
resumed_other a task seq entry g other = let differs : (entry.to == task) ≡ false = ne_eqb entry.to task other in rw differs (meets_none a g)

-- the demands of the entries from a number on are those of its entry and of the later ones
entries_of : (a : Alone) (task number : ℕ) (control : Kept Switch) (entry : Switch) (g : Going) → first_of control ≤ number →
    item_of control number ≡ Some entry →
    meets a (wanted_by task (number + 1) (entries_from control number)) g ≡
    meets a (wanted_by task (number + 1 + 1) (entries_from control (number + 1)))
    (meets a (resumed_wanted task (number + 1) entry) (meets a (left_wanted task (number + 1) entry) g))
entries_of a task number control entry g kept is =
    let rest = wanted_by task (number + 1 + 1) (entries_from control (number + 1)) in
    ap (λ entries. meets a (wanted_by task (number + 1) entries) g) (items_at control number entry kept is)
    ∙ ap (λ ds. meets a ds g) (wanted_one task (number + 1) entry (entries_from control (number + 1)))
    ∙ meets_append a (left_wanted task (number + 1) entry) (resumed_wanted task (number + 1) entry ++ rest) g
    ∙ meets_append a (resumed_wanted task (number + 1) entry) rest (meets a (left_wanted task (number + 1) entry) g)

pub entries_on : (a : Alone) (task number : ℕ) (control : Kept Switch) (entry : Switch) (t u v : Tracing) (whole : Going) → first_of control ≤ number →
    item_of control number ≡ Some entry →
    meets a (left_wanted task (number + 1) entry) (On t) ≡ On u → meets a (resumed_wanted task (number + 1) entry) (On u) ≡ On v →
    meets a (wanted_by task (number + 1) (entries_from control number)) (On t) ≡ whole →
    meets a (wanted_by task (number + 1 + 1) (entries_from control (number + 1))) (On v) ≡ whole
entries_on a task number control entry t u v whole kept is left resumed all =
    let rest = wanted_by task (number + 1 + 1) (entries_from control (number + 1)) in
    ap (meets a rest) (sym resumed)
    ∙ ap (λ g. meets a rest (meets a (resumed_wanted task (number + 1) entry) g)) (sym left)
    ∙ sym (entries_of a task number control entry (On t) kept is)
    ∙ all

pub entries_off_left : (a : Alone) (task number : ℕ) (control : Kept Switch) (entry : Switch) (t : Tracing) (x : Diverged) (whole : Going) →
    first_of control ≤ number → item_of control number ≡ Some entry →
    meets a (left_wanted task (number + 1) entry) (On t) ≡ Off x →
    meets a (wanted_by task (number + 1) (entries_from control number)) (On t) ≡ whole → whole ≡ Off x
entries_off_left a task number control entry t x whole kept is left all =
    let rest = wanted_by task (number + 1 + 1) (entries_from control (number + 1)) in
    sym all
    ∙ entries_of a task number control entry (On t) kept is
    ∙ ap (λ g. meets a rest (meets a (resumed_wanted task (number + 1) entry) g)) left
    ∙ ap (meets a rest) (meets_off a (resumed_wanted task (number + 1) entry) x)
    ∙ meets_off a rest x

pub entries_off_resumed : (a : Alone) (task number : ℕ) (control : Kept Switch) (entry : Switch) (t u : Tracing) (x : Diverged) (whole : Going) →
    first_of control ≤ number → item_of control number ≡ Some entry →
    meets a (left_wanted task (number + 1) entry) (On t) ≡ On u → meets a (resumed_wanted task (number + 1) entry) (On u) ≡ Off x →
    meets a (wanted_by task (number + 1) (entries_from control number)) (On t) ≡ whole → whole ≡ Off x
entries_off_resumed a task number control entry t u x whole kept is left resumed all =
    let rest = wanted_by task (number + 1 + 1) (entries_from control (number + 1)) in
    sym all
    ∙ entries_of a task number control entry (On t) kept is
    ∙ ap (λ g. meets a rest (meets a (resumed_wanted task (number + 1) entry) g)) left
    ∙ ap (meets a rest) resumed
    ∙ meets_off a rest x

pub entries_end : (a : Alone) (task number : ℕ) (control : Kept Switch) (t : Tracing) (whole : Going) → length control.items ≤ control.total →
    control.total ≤ number → meets a (wanted_by task (number + 1) (entries_from control number)) (On t) ≡ whole → whole ≡ On t
entries_end a task number control t whole among past all =
    sym all
    ∙ ap (λ entries. meets a (wanted_by task (number + 1) entries) (On t)) (items_past control number among past)
    ∙ ap (λ ds. meets a ds (On t)) (wanted_none task (number + 1))
    ∙ meets_none a (On t)

-- what a task that was to stand at a marker tells of the demand
pub met_stood : (a : Alone) (seq : ℕ) (wanted : Marker) (t : Tracing) (r : Result (Unit {0}) ReplayFault) (new : Tracer) → tracing_of new ≡ t →
    Stood a seq wanted t.place r → Met (meet a (demand seq wanted Stands) (On t)) r new
met_stood a seq wanted t (Ok u) new same stood = stands a seq wanted t stood ∙ ap On (sym same)
met_stood a seq wanted t (Err (Lost l)) new same stood = absurd stood
met_stood a seq wanted t (Err (HasDiverged d)) new same stood = stands_not a seq wanted t d stood.0 stood.1
met_stood a seq wanted t (Err Memory) new same stood = absurd stood

-- and one that was to go on to it, and to run there
pub met_runs : (a : Alone) (seq : ℕ) (wanted : Marker) (t : Tracing) (r : Result (Unit {0}) ReplayFault) (w : Walker) (new : Tracer) →
    tracing_of new ≡ record t { place = place_of w } → Reached a seq wanted t.place r w → Met (meet a (demand seq wanted Runs) (On t)) r new
met_runs a seq wanted t (Ok u) w new same reached = runs a seq wanted t (place_of w) reached.walked reached.at ∙ ap On (sym same)
met_runs a seq wanted t (Err (Lost l)) w new same reached = absurd reached
met_runs a seq wanted t (Err (HasDiverged d)) w new same reached = runs_not a seq wanted t d (reached Runs t)
met_runs a seq wanted t (Err Memory) w new same reached = tt

-- and one that did not come to where it was to leave the processor
pub met_no_leave : (a : Alone) (seq : ℕ) (wanted : Marker) (t : Tracing) (f : Bool) (e : ReplayFault) (w : Walker) (new : Tracer) →
    Reached a seq wanted t.place (Err e) w → Met {X = Unit {0}} (meet a (demand seq wanted (Leaves f)) (On t)) (Err e) new
met_no_leave a seq wanted t f (Lost l) w new reached = absurd reached
met_no_leave a seq wanted t f (HasDiverged d) w new reached = leaves_not a seq wanted t f d (reached (Leaves f) t)
met_no_leave a seq wanted t f Memory w new reached = tt

-- and one that did not fault there
pub met_no_fault : (a : Alone) (seq : ℕ) (wanted : Marker) (t : Tracing) (q : Place) (e : ReplayFault) (new : Tracer) →
    walk_to a wanted t.place ≡ Comes q → marker_eq (marker_of q.standing) wanted ≡ true → DidFault a seq wanted q (Err e) →
    Met {X = Unit {0}} (meet a (demand seq wanted (Leaves true)) (On t)) (Err e) new
met_no_fault a seq wanted t q (Lost l) new walked at did = absurd did
met_no_fault a seq wanted t q (HasDiverged d) new walked at did = faults a seq wanted t q (Off d) walked at (did (Leaves true) t)
met_no_fault a seq wanted t q Memory new walked at did = absurd did

-- a demand that is the same
pub met_same : {X : Type 0} (g h : Going) (r : Result X ReplayFault) (new : Tracer) → h ≡ g → Met g r new → Met h r new
met_same g h (Ok x) new same met = same ∙ met
met_same g h (Err (Lost l)) new same met = met
met_same g h (Err (HasDiverged d)) new same met = same ∙ met
met_same g h (Err Memory) new same met = met

-- the demand of the end, by who runs there
pub last_here : (task seq running : ℕ) (last : Marker) → running ≡ task → last_wanted task seq running last ≡ demand seq last Runs
last_here task seq running last own = let same : (running == task) ≡ true = eq-eqb running task own in rw same refl

pub last_other : (task seq running : ℕ) (last : Marker) → (running ≡ task → ⊥) → last_wanted task seq running last ≡ demand seq last Stands
last_other task seq running last other = let differs : (running == task) ≡ false = ne_eqb running task other in rw differs refl

-- a kind that isn't a fault
pub no_fault : (kind : Kind) → (kind ≡ Fault → ⊥) → is_fault kind ≡ false
no_fault Preempted not = refl
no_fault Waits not = refl
no_fault Ends not = refl
no_fault Fault not = absurd (not refl)
no_fault Shutdown not = refl
no_fault Idle not = refl

-- in which epoch a task leaves the processor by a kept entry
pub leaves_before : (task epoch number : ℕ) (control : Kept Switch) (entry : Switch) → LeavesBefore task control epoch → first_of control ≤ number →
    item_of control number ≡ Some entry → entry.from ≡ task → entry.from_at.epoch < epoch
leaves_before task epoch number control entry all kept is own =
    let there : slice_get control.items (number - first_of control) ≡ Some entry = there_at control number entry kept is in
    let same : get_or control.items (number - first_of control) entry ≡ entry = get_or_from_slice_get control.items (number - first_of control) entry entry there in
    let held = all (number - first_of control) entry (slice_get_within control.items (number - first_of control) entry there) in
    subst (λ (e : Switch). e.from ≡ task → e.from_at.epoch < epoch) same held own

-- the entries that are left, where one of them was not met
pub left_off : (a : Alone) (task number : ℕ) (control : Kept Switch) (entry : Switch) (t : Tracing) (e : ReplayFault) (whole : Going) (mid new : Tracer) →
    first_of control ≤ number → item_of control number ≡ Some entry →
    Met {X = Unit {0}} (meets a (left_wanted task (number + 1) entry) (On t)) (Err e) mid →
    meets a (wanted_by task (number + 1) (entries_from control number)) (On t) ≡ whole → Met {X = Unit {0}} whole (Err e) new
left_off a task number control entry t (Lost l) whole mid new kept is met all = absurd met
left_off a task number control entry t (HasDiverged d) whole mid new kept is met all = entries_off_left a task number control entry t d whole kept is met all
left_off a task number control entry t Memory whole mid new kept is met all = tt

pub resumed_off : (a : Alone) (task number : ℕ) (control : Kept Switch) (entry : Switch) (t u : Tracing) (e : ReplayFault) (whole : Going)
    (mid new : Tracer) → first_of control ≤ number → item_of control number ≡ Some entry →
    meets a (left_wanted task (number + 1) entry) (On t) ≡ On u →
    Met {X = Unit {0}} (meets a (resumed_wanted task (number + 1) entry) (On u)) (Err e) mid →
    meets a (wanted_by task (number + 1) (entries_from control number)) (On t) ≡ whole → Met {X = Unit {0}} whole (Err e) new
resumed_off a task number control entry t u (Lost l) whole mid new kept is left met all = absurd met
resumed_off a task number control entry t u (HasDiverged d) whole mid new kept is left met all =
    entries_off_resumed a task number control entry t u d whole kept is left met all
resumed_off a task number control entry t u Memory whole mid new kept is left met all = tt

-- the replay goes on with its task where it has come
pub goes_on : (r : Result (Unit {0}) ReplayFault) (t : Tracer) (w : Walker) → IsTracer t → OnOk r (IsSound w) →
    OnOk r (alone_of w ≡ alone_of t.walker) →
    OnOk r (length w.task.standing.body.words ≡ length t.walker.task.standing.body.words) → OnOk r (IsTracer (record t { walker = w }))
goes_on (Ok u) t w tracer sound same words = record {
  sound = sound;
  own = tracer.own ∙ sym (ap (λ (a : Alone). a.task) same);
  printed = tracer.printed ∙ sym words;
}
goes_on (Err e) t w tracer sound same words = tt
