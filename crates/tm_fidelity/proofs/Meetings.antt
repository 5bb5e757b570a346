-- How a task meets each kind of demand.
use Rattle.std.proofs.Common.{◌≡◌, ℕ, true, false, Bool, refl, ap, ◌∙◌, subst}
use Rattle.tm_marker.specs.declared.marker.Marker.{Marker}
use Rattle.tm_marker.specs.Order.{marker_eq}
use Rattle.tm_task.specs.declared.outcome.Cause.{Cause}
use Rattle.tm_task.specs.Cause.{cause_number}
use Rattle.tm_task.specs.Exec.{Faults, exec}
use Rattle.tm_task.specs.Standing.{marker_of}
use Rattle.tm_task.specs.Place.{Place}
use Rattle.tm_system.specs.Alone.{Alone, Comes, walk_to}
use Rattle.tm_system.specs.Wanted.{Demand, Starts, Leaves, Stands, Runs}
use Rattle.tm_system.specs.Tracing.{Tracing, On, begun, stopped, meet, meet_walk, meet_at, meet_fault}
use Rattle.tm_system.proofs.Meeting.{meet_on}
use Rattle.tm_fidelity.proofs.Ways.{is_itself}

equal : (m n : Marker) → m ≡ n → marker_eq m n ≡ true
equal m n same = subst (λ (k : Marker). marker_eq m k ≡ true) same (is_itself m)

-- the task comes to the place that is wanted
comes_to : (a : Alone) (d : Demand) (t : Tracing) (p : Place) → walk_to a d.at t.place ≡ Comes p → marker_of p.standing ≡ d.at →
    meet_walk a d t (walk_to a d.at t.place) ≡ meet_at a d t p d.way
comes_to a d t p comes same = ap (meet_walk a d t) comes ∙ rw (equal (marker_of p.standing) d.at same) refl

pub meets_start : (a : Alone) (seq : ℕ) (at : Marker) (t : Tracing) (p : Place) → walk_to a at t.place ≡ Comes p → marker_of p.standing ≡ at →
    meet a (record { seq = seq; at = at; way = Starts }) (On t) ≡ On (begun a.task p)
meets_start a seq at t p comes same =
    let d : Demand = record { seq = seq; at = at; way = Starts } in
    meet_on a d t ∙ comes_to a d t p comes same

pub meets_runs : (a : Alone) (seq : ℕ) (at : Marker) (t : Tracing) (p : Place) → walk_to a at t.place ≡ Comes p → marker_of p.standing ≡ at →
    meet a (record { seq = seq; at = at; way = Runs }) (On t) ≡ On (record t { place = p })
meets_runs a seq at t p comes same =
    let d : Demand = record { seq = seq; at = at; way = Runs } in
    meet_on a d t ∙ comes_to a d t p comes same

pub meets_leaves : (a : Alone) (seq : ℕ) (at : Marker) (faults : Bool) (t : Tracing) (p : Place) → walk_to a at t.place ≡ Comes p →
    marker_of p.standing ≡ at → faults ≡ false → meet a (record { seq = seq; at = at; way = Leaves faults }) (On t) ≡ On (stopped a.task seq t p 0)
meets_leaves a seq at faults t p comes same none =
    let d : Demand = record { seq = seq; at = at; way = Leaves faults } in
    meet_on a d t ∙ comes_to a d t p comes same ∙ ap (λ f. meet_at a d t p (Leaves f)) none

pub meets_faults : (a : Alone) (seq : ℕ) (at : Marker) (faults : Bool) (t : Tracing) (p : Place) (cause : Cause) → walk_to a at t.place ≡ Comes p →
    marker_of p.standing ≡ at → faults ≡ true → exec a.text p.standing.body ≡ Faults cause →
    meet a (record { seq = seq; at = at; way = Leaves faults }) (On t) ≡ On (stopped a.task seq t p (cause_number cause))
meets_faults a seq at faults t p cause comes same some is =
    let d : Demand = record { seq = seq; at = at; way = Leaves faults } in
    meet_on a d t ∙ comes_to a d t p comes same ∙ ap (λ f. meet_at a d t p (Leaves f)) some ∙ ap (meet_fault a d t p) is

pub meets_stands : (a : Alone) (seq : ℕ) (at : Marker) (t : Tracing) → marker_of t.place.standing ≡ at →
    meet a (record { seq = seq; at = at; way = Stands }) (On t) ≡ On t
meets_stands a seq at t same =
    meet_on a (record { seq = seq; at = at; way = Stands }) t ∙ rw (equal (marker_of t.place.standing) at same) refl
