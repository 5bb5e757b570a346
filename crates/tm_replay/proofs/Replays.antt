-- A replay of a task from its start to its end.
use Rattle.std.proofs.Common.{◌≡◌, ℕ, ◌+◌, ◌-◌, ◌^◌, ◌<◌, ◌≤◌, ◌==◌, [], ◌∷◌, ◌++◌, length, Option, Some, None, Result, Err, slice_get, get_or, ap, sym, subst, ◌∙◌, arith, inl, inr}
use Rattle.std.specs.Prelude.{IsSomeAnd, if◌then◌else◌}
use Rattle.std.proofs.lemmas.Bool.{cases_lt}
use Rattle.std.proofs.lemmas.Grind.{common_steps}
use Rattle.std.proofs.lemmas.Option.{slice_get_within}
use Rattle.tm_marker.specs.declared.body.Body.{Body}
use Rattle.tm_marker.specs.declared.entries.DataEntry.{DataEntry}
use Rattle.tm_marker.specs.declared.entries.Switch.{Switch}
use Rattle.tm_marker.specs.declared.marker.Marker.{Marker}
use Rattle.tm_marker.specs.declared.shape.Shape.{Shape}
use Rattle.tm_ring.specs.Kept.{Kept, first_of}
use Rattle.tm_check.specs.Checkpoint.{Checkpoint, KeptChecks, check_of, first_epoch}
use Rattle.tm_image.specs.Image.{ImageView}
use Rattle.tm_log.specs.Points.{entries_from, marker_at_point, tail_marker}
use Rattle.tm_log.specs.Window.{WindowView, log_of, checks_of}
use Rattle.tm_log.specs.WellFormed.{IsWellFormed, IsEntry}
use Rattle.tm_points.specs.Finder.{lost_of, lost_of_check, lost_of_epoch, lost_of_task}
use Rattle.tm_points.specs.Laws.{IsReplayable}
use Rattle.tm_points.proofs.Replayable.{needed}
use Rattle.tm_task.specs.Place.{Place, start_place}
use Rattle.tm_system.specs.Alone.{Alone, Comes, walk_to}
use Rattle.tm_system.specs.Replaying.{alone_in, replayed_from, replayed_task}
use Rattle.tm_system.specs.Tracing.{Tracing, Going, On, Off, meet, meets, closed, all_used, begun, meet_walk}
use Rattle.tm_system.specs.Wanted.{Way, Starts, Runs, Stands, Demand, start_wanted, wanted_by, last_wanted}
use Rattle.tm_system.specs.declared.diverged.Diverged.{Diverged}
use Rattle.tm_system.proofs.Meeting.{meets_one, meets_append, meets_off}
use Rattle.tm_text.specs.declared.seen.Track.{Track}
use Rattle.tm_replay.specs.declared.fault.ReplayFault.{ReplayFault}
use Rattle.tm_replay.specs.declared.fault.ReplayFault.TheVariants.{Lost as IsLost, Memory, Diverged as HasDiverged}
use Rattle.tm_replay.specs.declared.tracer.Tracer.{Tracer}
use Rattle.tm_replay.specs.declared.walker.Walker.{Walker}
use Rattle.tm_replay.specs.Meeting.{tracing_of, Met, Tells, Closed, LeavesBefore}
use Rattle.tm_replay.specs.Starting.{StartsAt, check_at}
use Rattle.tm_replay.specs.Walking.{alone_of, place_of, Reached, IsReached}
use Rattle.tm_replay.proofs.Demands.{meets_single, starts, starts_not}
use Rattle.tm_replay.proofs.Starts.{IsStart}

-- an accepted point: its control entries and what each task needs are kept
all_kept : (task epoch first : ℕ) (o : Option Checkpoint) → IsSomeAnd o (λ c. first ≤ c.data_number) → lost_of_check task epoch first o ≡ None
all_kept task epoch first None kept = absurd kept
all_kept task epoch first (Some c) kept = grind (arith, common_steps)

pub task_kept : (w : WindowView) (point task : ℕ) (start : Marker) → lost_of w point ≡ None → task < length w.shape.words →
    start ≡ marker_at_point w point task → lost_of_epoch w task start.epoch ≡ None
task_kept w point task start none below is =
    let r : IsReplayable w point = needed w point none in
    let all : lost_of_task w point task ≡ None = all_kept _ _ _ _ (r.tasks task below) in
    ap (λ (m : Marker). lost_of_epoch w task m.epoch) is ∙ all

pub entries_kept : (w : WindowView) (point : ℕ) (control : Kept Switch) → lost_of w point ≡ None → control ≡ w.control → first_of control ≤ point
entries_kept w point control none same =
    let r : IsReplayable w point = needed w point none in
    let kept : 0 < first_of w.control → first_of w.control < point = r.entries in
    let here : first_of w.control ≤ point = elim (cases_lt 0 (first_of w.control)) [
      | inl some ↦ omega (arith, kept some)
      | inr none ↦ omega arith
    ] in
    rw same here

-- epochs stay below 2^53
below_total : (checks : KeptChecks) (epoch : ℕ) (c : Checkpoint) → length checks.items ≤ checks.total → check_of checks epoch ≡ Some c → epoch < checks.total
below_total checks epoch c among is = grind (arith, common_steps, slice_get_within checks.items (epoch - first_epoch checks) c)

pub start_epoch : (w : WindowView) (shape : Shape) (task epoch : ℕ) → IsWellFormed w shape → task < length w.shape.words → IsStart w task epoch → epoch < 2 ^ 53
start_epoch w shape task epoch formed below start =
    let filled = (formed.tasks task below).checks in
    let among : length (checks_of w task).items ≤ (checks_of w task).total = omega (arith, filled.kept) in
    omega (arith, below_total (checks_of w task) epoch start.check among start.is, filled.counted)

pub last_epoch : (w : WindowView) (shape : Shape) (task : ℕ) (last : Marker) → IsWellFormed w shape → task < length w.shape.words →
    slice_get w.tail.at task ≡ Some last → last.epoch < 2 ^ 53
last_epoch w shape task last formed below there =
    let well = formed.tasks task below in
    let one : Some last ≡ Some well.at = sym there ∙ well.at_is in
    let same : last ≡ well.at = cc in
    rw same (omega (arith, well.epoch, well.checks.counted))

pub leaves_below : (w : WindowView) (shape : Shape) (task number : ℕ) (control : Kept Switch) → IsWellFormed w shape → task < length w.shape.words →
    number ≡ task → control ≡ w.control → LeavesBefore number control (2 ^ 53)
leaves_below w shape task number control formed below own same =
    rw (own, same) (λ k d inside. λ from. one (get_or w.control.items k d) (formed.entries k d inside) from)
  where
    one : (entry : Switch) → IsEntry w entry → entry.from ≡ task → entry.from_at.epoch < 2 ^ 53
    one entry is from =
        let reached : entry.from_at.epoch < (checks_of w entry.from).total = is.from.reached (omega arith) in
        let counted : (checks_of w entry.from).total < 2 ^ 53 = rw from ((formed.tasks task below).checks.counted) in
        omega arith

-- the demands of the start, of the entries and of the end are met, or the first that isn't is told
module _ (image : ImageView) (task point : ℕ) (control : Kept Switch) (running : ℕ) (start last : Marker) (log : Kept DataEntry) (check : Checkpoint) where
  abbrev one_alone : Alone
  one_alone = alone_in image task log check.data_number

  abbrev at_start : Going
  at_start = meet one_alone (start_wanted point start) (On (begun task (start_place check.body start.epoch)))

  abbrev at_entries : Going → Going
  at_entries g = meets one_alone (wanted_by task (point + 1) (entries_from control point)) g

  abbrev end_wanted : Demand
  end_wanted = last_wanted task (control.total + 1) running last

  pub parts : replayed_from image task point control running start last log check ≡
      closed one_alone end_wanted (meet one_alone end_wanted (at_entries at_start))
  unfolding replayed_from
  parts =
      ap (closed one_alone end_wanted)
      (meets_one one_alone (start_wanted point start) (wanted_by task (point + 1) (entries_from control point) ++ end_wanted ∷ []) _
      ∙ meets_append one_alone (wanted_by task (point + 1) (entries_from control point)) (end_wanted ∷ []) at_start
      ∙ meets_single one_alone end_wanted (at_entries at_start))

-- the same by the walker that starts the task
abbrev pub end_of : Alone → Kept Switch → ℕ → Marker → Demand
end_of a control running last = last_wanted a.task (control.total + 1) running last

abbrev pub start_of : Alone → ℕ → Marker → Place → Going
start_of a point start p = meet a (start_wanted point start) (On (begun a.task p))

abbrev pub entries_of : Alone → ℕ → Kept Switch → Going → Going
entries_of a point control g = meets a (wanted_by a.task (point + 1) (entries_from control point)) g

abbrev pub whole_of : Alone → ℕ → Kept Switch → ℕ → Marker → Marker → Place → Result Tracing Diverged
whole_of a point control running start last p =
    closed a (end_of a control running last) (meet a (end_of a control running last) (entries_of a point control (start_of a point start p)))

pub by_walker : (image : ImageView) (w : WindowView) (point task : ℕ) (start : Marker) (walker : Walker) → StartsAt image w task start.epoch walker →
    start ≡ marker_at_point w point task →
    replayed_task image w point task ≡
    whole_of (alone_of walker) point w.control w.tail.running start (tail_marker w task) (start_place (check_at w task start.epoch).body start.epoch)
by_walker image w point task start walker sa is =
    ap (λ (m : Marker). replayed_from image task point w.control w.tail.running m (tail_marker w task) (log_of w task) (check_at w task m.epoch)) (sym is)
    ∙ parts image task point w.control w.tail.running start (tail_marker w task) (log_of w task) (check_at w task start.epoch)
    ∙ ap (λ a. whole_of a point w.control w.tail.running start (tail_marker w task) (start_place (check_at w task start.epoch).body start.epoch)) (sym sa.alone)

meet_off : (a : Alone) (d : Demand) (x : Diverged) → meet a d (Off x) ≡ Off x
meet_off a d x = sym (meets_single a d (Off x)) ∙ meets_off a (d ∷ []) x

module _ (a : Alone) (point : ℕ) (control : Kept Switch) (running : ℕ) (start last : Marker) (p : Place) where
  abbrev whole : Result Tracing Diverged
  whole = whole_of a point control running start last p

  abbrev wanted : Demand
  wanted = end_of a control running last

  off_start : (x : Diverged) → start_of a point start p ≡ Off x → whole ≡ Err x
  off_start x is =
      ap (λ g. closed a wanted (meet a wanted (entries_of a point control g))) is
      ∙ ap (λ g. closed a wanted (meet a wanted g)) (meets_off a (wanted_by a.task (point + 1) (entries_from control point)) x)
      ∙ ap (closed a wanted) (meet_off a wanted x)

  off_entries : (t : Tracing) (x : Diverged) → start_of a point start p ≡ On t → entries_of a point control (On t) ≡ Off x → whole ≡ Err x
  off_entries t x one two =
      ap (λ g. closed a wanted (meet a wanted (entries_of a point control g))) one
      ∙ ap (λ g. closed a wanted (meet a wanted g)) two
      ∙ ap (closed a wanted) (meet_off a wanted x)

  off_end : (t u : Tracing) (x : Diverged) → start_of a point start p ≡ On t → entries_of a point control (On t) ≡ On u →
      meet a wanted (On u) ≡ Off x → whole ≡ Err x
  off_end t u x one two three =
      ap (λ g. closed a wanted (meet a wanted (entries_of a point control g))) one
      ∙ ap (λ g. closed a wanted (meet a wanted g)) two
      ∙ ap (closed a wanted) three

  pub on_end : (t u v : Tracing) → start_of a point start p ≡ On t → entries_of a point control (On t) ≡ On u →
      meet a wanted (On u) ≡ On v → whole ≡ all_used a wanted v
  on_end t u v one two three =
      ap (λ g. closed a wanted (meet a wanted (entries_of a point control g))) one
      ∙ ap (λ g. closed a wanted (meet a wanted g)) two
      ∙ ap (closed a wanted) three

  -- what is told where one of them isn't met
  pub tells_start : (r : Result Tracing Diverged) (e : ReplayFault) (w : Walker) → r ≡ whole → p.made ≡ [] →
      Reached a point start p (Err e) w → Tells r (Err e)
  tells_start r (IsLost l) w same none reached = absurd reached
  tells_start r (HasDiverged d) w same none reached =
      same ∙ off_start d (starts_not a point start (begun a.task p) d (not_made p none reached))
    where
      not_made : (q : Place) → q.made ≡ [] → ((way : Way) (t : Tracing) → meet_walk a (record { seq = point; at = start; way = way }) t (walk_to a start q) ≡ Off d) →
          meet_walk a (record { seq = point; at = start; way = Starts }) (begun a.task q) (walk_to a start (record q { made = [] })) ≡ Off d
      not_made q none reached =
          subst (λ m. meet_walk a (record { seq = point; at = start; way = Starts }) (begun a.task q) (walk_to a start (record q { made = m })) ≡ Off d) none (reached Starts (begun a.task q))
  tells_start r Memory w same none reached = tt

  pub tells_entries : (r : Result Tracing Diverged) (t : Tracing) (e : ReplayFault) (new : Tracer) → r ≡ whole → start_of a point start p ≡ On t →
      Met {X = Unit {0}} (entries_of a point control (On t)) (Err e) new → Tells r (Err e)
  tells_entries r t (IsLost l) new same one met = absurd met
  tells_entries r t (HasDiverged d) new same one met = same ∙ off_entries t d one met
  tells_entries r t Memory new same one met = tt

  pub tells_end : (r : Result Tracing Diverged) (t u : Tracing) (e : ReplayFault) (new : Tracer) → r ≡ whole → start_of a point start p ≡ On t →
      entries_of a point control (On t) ≡ On u → Met {X = Unit {0}} (meet a wanted (On u)) (Err e) new → Tells r (Err e)
  tells_end r t u (IsLost l) new same one two met = absurd met
  tells_end r t u (HasDiverged d) new same one two met = same ∙ off_end t u d one two met
  tells_end r t u Memory new same one two met = tt

-- the text of the task has begun
pub record IsBegun (a : Alone) (point : ℕ) (start : Marker) (p : Place) (t : Tracer) : Type 0 where
  pub one : start_of a point start p ≡ On (tracing_of t)
  pub same : alone_of t.walker ≡ a

pub began : (point : ℕ) (start : Marker) (walker reached : Walker) (t : Tracer) (body : Body) (epoch : ℕ) → place_of walker ≡ start_place body epoch →
    IsReached (alone_of walker) start (place_of walker) reached → alone_of reached ≡ alone_of walker →
    tracing_of t ≡ begun reached.number (place_of reached) → alone_of t.walker ≡ alone_of reached →
    IsBegun (alone_of walker) point start (start_place body epoch) t
began point start walker reached t body epoch place came same told again =
    let walked : walk_to (alone_of walker) start (start_place body epoch) ≡ Comes (place_of reached) =
    ap (walk_to (alone_of walker) start) (sym place) ∙ came.walked in
    record {
      one =
          starts (alone_of walker) point start (begun walker.number (start_place body epoch)) (place_of reached) walked came.at
          ∙ ap (λ (a : Alone). On (begun a.task (place_of reached))) (sym same)
          ∙ ap On (sym told);
      same = again ∙ same;
    }

-- what was met by the code's values was met by the window's
pub entries_met : {X : Type 0} (a : Alone) (t new : Tracer) (point : ℕ) (control same : Kept Switch) (r : Result X ReplayFault) → alone_of t.walker ≡ a →
    control ≡ same →
    Met (meets (alone_of t.walker) (wanted_by t.walker.number (point + 1) (entries_from control point)) (On (tracing_of t))) r new →
    Met (entries_of a point same (On (tracing_of t))) r new
entries_met a t new point control same r alone is met =
    subst (λ (k : Kept Switch). Met (entries_of a point k (On (tracing_of t))) r new) is
    (subst (λ (x : Alone). Met (entries_of x point control (On (tracing_of t))) r new) alone met)

pub end_met : {X : Type 0} (a : Alone) (t new : Tracer) (control : Kept Switch) (seq running runs : ℕ) (last stands : Marker) (r : Result X ReplayFault) →
    alone_of t.walker ≡ a → seq ≡ control.total + 1 → running ≡ runs → last ≡ stands →
    Met (meet (alone_of t.walker) (last_wanted t.walker.number seq running last) (On (tracing_of t))) r new →
    Met (meet a (end_of a control runs stands) (On (tracing_of t))) r new
end_met a t new control seq running runs last stands r alone number who at met =
    subst (λ (m : Marker). Met (meet a (end_of a control runs m) (On (tracing_of t))) r new) at
    (subst (λ (n : ℕ). Met (meet a (end_of a control n last) (On (tracing_of t))) r new) who
    (subst (λ (n : ℕ). Met (meet a (last_wanted a.task n running last) (On (tracing_of t))) r new) number
    (subst (λ (x : Alone). Met (meet x (last_wanted x.task seq running last) (On (tracing_of t))) r new) alone met)))

pub end_told : (a : Alone) (t : Tracer) (control : Kept Switch) (seq running : ℕ) (last stands : Marker) (replay : Result Tracing Diverged)
    (r : Result Track ReplayFault) → alone_of t.walker ≡ a → seq ≡ control.total + 1 → last ≡ stands →
    replay ≡ all_used a (end_of a control running stands) (tracing_of t) → Closed t seq last r → Tells replay r
end_told a t control seq running last stands replay r alone number at is closes =
    subst (λ (x : Result Tracing Diverged). Tells x r) (sym is)
    (subst (λ (m : Marker). Tells (all_used a (end_of a control running m) (tracing_of t)) r) at
    (subst (λ (n : ℕ). Tells (all_used a (last_wanted a.task n running last) (tracing_of t)) r) number
    (subst (λ (x : Alone). Tells (all_used x (last_wanted x.task seq running last) (tracing_of t)) r) alone
    (closes (if running == t.walker.number then Runs else Stands)))))
