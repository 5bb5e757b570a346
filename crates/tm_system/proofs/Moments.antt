-- The machine stands where the run does, through one moment more.
use Rattle.std.proofs.Common.{◌≡◌, ◌≢◌, ℕ, ◌<◌, ◌||◌, not, ◌==◌, if◌then◌else◌, List, ◌∷◌, length, refl, subst, ap, sym, ◌∙◌, inl, inr, arith, Option, Some, None, is_some, slice_get, slice_set, length-set, unwrap_or}
use Rattle.std.proofs.lemmas.Bool.{cases_eq, eq-eqb, ne_eqb}
use Rattle.tm_kernel.proofs.Keeping.{slice_get_set_same, slice_get_set_other}
use Rattle.tm_marker.specs.declared.body.Body.{Body}
use Rattle.tm_marker.specs.declared.marker.Marker.{Marker}
use Rattle.tm_marker.specs.declared.entries.Switch.{Switch}
use Rattle.tm_marker.specs.declared.entries.Kind.{Kind}
use Rattle.tm_task.specs.Standing.{Standing, TaskView}
use Rattle.tm_kernel.specs.State.{KernelState, nobody}
use Rattle.tm_image.specs.Image.{ImageView, entry_of}
use Rattle.tm_system.specs.History.{Moment, History}
use Rattle.tm_system.specs.Run.{now, running_at, no_body}
use Rattle.tm_system.specs.Marks.{marker_at}
use Rattle.tm_system.specs.Controls.{kind_by, is_switch, switch_at}
use Rattle.tm_system.specs.Machine.{MachineView, IsAt, task_at}
use Rattle.tm_system.specs.Parts.{IsTaskOrNobody, marker_by, marker_in, switched}
use Rattle.tm_system.proofs.Marking.{IsApart, rests_at}

-- two views of a task of one entry
pub same_task : (entry : ℕ) (s s' : Standing) → s ≡ s' →
    (let t : TaskView = record { entry = entry; standing = s } in t) ≡ record { entry = entry; standing = s' }
same_task entry s s' e = ap (λ (x : Standing). let t : TaskView = record { entry = entry; standing = x } in t) e

-- a moment that leaves every task
pub rested : (image : ImageView) (h : History) (old new : MachineView) (m : Moment) → IsAt image old h →
    new.kernel ≡ m.after.kernel → new.kernel.spec ≡ old.kernel.spec → ((t : ℕ) → IsApart t m.deed) →
    m.after.bodies ≡ (now image h).bodies → new.tasks ≡ old.tasks → IsAt image new (m ∷ h)
rested image h old new m at kernel spec apart bodies tasks = record {
  spec = spec ∙ at.spec;
  kernel = kernel;
  bodies = ap length bodies ∙ at.bodies;
  tasks = ap length tasks ∙ at.tasks;
  each = λ t within.
      ap (λ (ts : List TaskView). slice_get ts t) tasks ∙ at.each t within ∙
      ap Some (same_task (entry_of image t) _ _
      (sym (rests_at image m h t (apart t) (ap (λ (bs : List Body). slice_get bs t) bodies))));
}

-- a moment that leaves every task but one
pub moved : (image : ImageView) (h : History) (old new : MachineView) (m : Moment) (r : ℕ) (next : Body) (after : TaskView) →
    IsAt image old h → r < length image.loads →
    new.kernel ≡ m.after.kernel → new.kernel.spec ≡ old.kernel.spec → ((t : ℕ) → t ≢ r → IsApart t m.deed) →
    m.after.bodies ≡ slice_set (now image h).bodies r next → new.tasks ≡ slice_set old.tasks r after →
    after ≡ task_at image (m ∷ h) r → IsAt image new (m ∷ h)
moved image h old new m r next after at there kernel spec apart bodies tasks here = record {
  spec = spec ∙ at.spec;
  kernel = kernel;
  bodies = ap length bodies ∙ length-set (now image h).bodies r next ∙ at.bodies;
  tasks = ap length tasks ∙ length-set old.tasks r after ∙ at.tasks;
  each = λ t within. elim (cases_eq t r) [
    | inl same ↦
        let put : slice_get (slice_set old.tasks r after) r ≡ Some after =
        slice_get_set_same old.tasks r after (omega (arith, at.tasks)) in
        let P : ℕ → Type 0 = λ (x : ℕ). slice_get new.tasks x ≡ Some (task_at image (m ∷ h) x) in
        subst P (sym same) (ap (λ (ts : List TaskView). slice_get ts r) tasks ∙ put ∙ ap Some here)
    | inr other ↦
        let body : slice_get m.after.bodies t ≡ slice_get (now image h).bodies t =
        ap (λ (bs : List Body). slice_get bs t) bodies ∙ slice_get_set_other (now image h).bodies r t next other in
        ap (λ (ts : List TaskView). slice_get ts t) tasks ∙ slice_get_set_other old.tasks r t after other ∙ at.each t within ∙
        ap Some (same_task (entry_of image t) _ _ (sym (rests_at image m h t (apart t other) body)))
  ];
}

-- the body that was put
pub body_put : (bodies : List Body) (r : ℕ) (next : Body) → r < length bodies →
    unwrap_or (slice_get (slice_set bodies r next) r) no_body ≡ next
body_put bodies r next there = ap (λ (o : Option Body). unwrap_or o no_body) (slice_get_set_same bodies r next there)

-- the marker of a task
pub marker_in-at : (image : ImageView) (machine : MachineView) (h : History) (t : ℕ) → IsAt image machine h →
    IsTaskOrNobody (length image.loads) t → marker_in machine t ≡ marker_at image h t
marker_in-at image machine h t at there = elim (cases_eq t nobody) [
  | inl e ↦ rw (eq-eqb t nobody e) refl
  | inr other ↦ elim there [
    | inl e ↦ absurd (other e)
    | inr within ↦ rw (ne_eqb t nobody other) (ap marker_by (at.each t within))
  ]
]

-- two control entries of equal parts
same_switch : (from to : ℕ) (kind : Kind) (a a' b b' : Marker) → a ≡ a' → b ≡ b' →
    (let s : Switch = record { from = from; kind = kind; from_at = a; to = to; to_at = b } in s)
    ≡ record { from = from; kind = kind; from_at = a'; to = to; to_at = b' }
same_switch from to kind a a' b b' p q = cc

-- the control entry that the machine tells
pub switched-at : (image : ImageView) (machine : MachineView) (m : Moment) (h : History) (from : ℕ) (leaves : Option Kind) →
    IsAt image machine (m ∷ h) → from ≡ running_at image h → leaves ≡ m.leaves →
    IsTaskOrNobody (length image.loads) from → IsTaskOrNobody (length image.loads) machine.kernel.running →
    switched machine from leaves ≡ (if is_switch image m h then Some (switch_at image m h) else None)
switched-at image machine m h from leaves at ran left before after =
    let to : machine.kernel.running ≡ m.after.kernel.running = ap (λ (k : KernelState). k.running) at.kernel in
    let P : ℕ → ℕ → Option Kind → Type 0 = λ (f : ℕ) (t : ℕ) (l : Option Kind).
    (if is_some l || not (f == t)
    then Some (let s : Switch = record { from = f; kind = kind_by f l; from_at = marker_at image (m ∷ h) f; to = t; to_at = marker_at image (m ∷ h) t } in s)
    else None) ≡ (if is_switch image m h then Some (switch_at image m h) else None) in
    let e1 : marker_in machine from ≡ marker_at image (m ∷ h) from = marker_in-at image machine (m ∷ h) from at before in
    let e2 : marker_in machine machine.kernel.running ≡ marker_at image (m ∷ h) machine.kernel.running =
    marker_in-at image machine (m ∷ h) machine.kernel.running at after in
    let same = same_switch from machine.kernel.running (kind_by from leaves) _ _ _ _ e1 e2 in
    ap (λ (s : Switch). if is_some leaves || not (from == machine.kernel.running) then Some s else None) same ∙
    subst (λ (f : ℕ). P f machine.kernel.running leaves) (sym ran)
    (subst (λ (t : ℕ). P (running_at image h) t leaves) (sym to)
    (subst (λ (l : Option Kind). P (running_at image h) m.after.kernel.running l) (sym left) refl))
