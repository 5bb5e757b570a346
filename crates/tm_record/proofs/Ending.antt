-- The tail of a window, and the boot's checkpoints.
use Rattle.std.proofs.Common.{◌≡◌, ◌≢◌, ℕ, zero, suc, ◌+◌, ◌-◌, ◌<◌, ◌≤◌, ◌==◌, List, [], ◌∷◌, ◌++◌, length, map, drop, get_or, slice_get, option_map, Some, refl, ap, sym, ◌∙◌, subst, arith, inl, inr}
use Rattle.std.proofs.lemmas.Bool.{cases_Bool, eqb-true, eqb-false}
use Rattle.std.proofs.lemmas.List.{length-map, take_all, drop_all, append-nil, get_or-replicate, get_or-map}
use Rattle.std.proofs.Math.Seq.{drop-nil}
use Rattle.std.proofs.lemmas.Option.{unwrap_or-slice_get}
use Rattle.tm_marker.specs.declared.body.Body.{Body}
use Rattle.tm_marker.specs.declared.marker.Marker.{Marker}
use Rattle.tm_marker.specs.declared.tail.Tail.{Tail}
use Rattle.tm_marker.specs.declared.shape.Shape.{Shape}
use Rattle.tm_task.specs.Standing.{TaskView, marker_of}
use Rattle.tm_kernel.specs.State.{state_number}
use Rattle.tm_image.specs.Image.{ImageView, IsImage, shape_of}
use Rattle.tm_ring.specs.Kept.{kept, Holds}
use Rattle.tm_check.specs.Checkpoint.{Checkpoint, checkpoint, kept_checks, HoldsChecks}
use Rattle.tm_check.proofs.Shifts.{holds_pushed}
use Rattle.tm_log.specs.Window.{WindowView, IsWindow, log_of, checks_of, empty_window, with_check, with_task}
use Rattle.tm_log.proofs.Copying.{IsCopying, copies_one}
use Rattle.tm_log.proofs.Keeping.{checks_pushed, checks_others}
use Rattle.tm_system.specs.History.{History}
use Rattle.tm_system.specs.Run.{now, body_at}
use Rattle.tm_system.specs.Controls.{controls, entries, outputs, checkpoints}
use Rattle.tm_system.specs.Machine.{MachineView, IsAt, IsMachine}
use Rattle.tm_record.specs.Window.{IsTailOf}
use Rattle.tm_system.specs.Moving.{task_in}
use Rattle.tm_system.specs.Hearing.{StandAt}
use Rattle.tm_record.specs.Recording.{tail_of, checkpoint_now, check_noted, IsNoted, IsRecorded}
use Rattle.tm_record.proofs.Moments.{task_is, check_size, shape_tasks}
use Rattle.tm_system.proofs.Bodies.{boot_bodies}

-- an item of a list, mapped
got_mapped : {A B : Type 0} (f : A → B) (xs : List A) (i : ℕ) (y : B) → option_map f (slice_get xs i) ≡ Some y → y ≡ get_or (map f xs) i y
got_mapped f [] i y e = cc
got_mapped f (x ∷ xs) zero y e = cc
got_mapped f (x ∷ xs) (suc i) y e = got_mapped f xs i y e

pub mapped_got : {A B : Type 0} (f : A → B) (xs : List A) (i : ℕ) → slice_get (map f xs) i ≡ option_map f (slice_get xs i)
mapped_got f [] i = refl
mapped_got f (x ∷ xs) zero = refl
mapped_got f (x ∷ xs) (suc i) = mapped_got f xs i

-- a list of which all items are copied
copied_all : {X : Type 0} (from before now : List X) (count : ℕ) → IsCopying from before now count →
    length from ≤ count → length before ≤ count → now ≡ from
copied_all from before now count c whole long =
    c.items ∙ ap (λ l. l ++ drop count before) (take_all count from whole) ∙ ap (λ l. from ++ l) (drop_all count before long) ∙ append-nil from

-- the markers and states of the first tasks stand in the tail
pub record IsClosing (machine : MachineView) (before now : WindowView) (count : ℕ) : Type 0 where
  pub rest : now ≡ record before {
    tail = record {
      running = machine.kernel.running;
      ended = machine.kernel.ended;
      at = now.tail.at;
      state = now.tail.state;
    };
  }
  pub at : IsCopying (map (λ (t : TaskView). marker_of t.standing) machine.tasks) before.tail.at now.tail.at count
  pub state : IsCopying (map state_number machine.kernel.states) before.tail.state now.tail.state count

pub closing_starts : (machine : MachineView) (before now : WindowView) (running ended : ℕ) → running ≡ machine.kernel.running → ended ≡ machine.kernel.ended →
    now ≡ record before { tail = record before.tail { running = running; ended = ended } } → IsClosing machine before now 0
closing_starts machine before now running ended r e is =
    subst (λ (w : WindowView). IsClosing machine before w 0) (sym is) (record {
      rest = ap (λ k. record before { tail = record before.tail { running = k; ended = ended } }) r
          ∙ ap (λ k. record before { tail = record before.tail { running = machine.kernel.running; ended = k } }) e;
      at = record { items = refl };
      state = record { items = refl };
    })

-- a window for which the machine's tasks are as many as the shape's
pub record AreEqual (machine : MachineView) (w : WindowView) : Type 0 where
  pub window : IsWindow w
  pub sound : IsMachine machine
  pub tasks : length w.shape.words ≡ length machine.tasks

pub closing_goes_on : (machine : MachineView) (before now next : WindowView) (task : ℕ) (t : TaskView) (at : Marker) (state : ℕ) →
    AreEqual machine before → IsClosing machine before now task → slice_get machine.tasks task ≡ Some t → at ≡ marker_of t.standing →
    option_map state_number (slice_get machine.kernel.states task) ≡ Some state → task < length machine.tasks →
    next ≡ with_task now task at state → IsClosing machine before next (task + 1)
closing_goes_on machine before now next task t at state eq c there marks states below is =
    let marker : option_map (λ (t : TaskView). marker_of t.standing) (slice_get machine.tasks task) ≡ Some at =
    ap (option_map (λ (t : TaskView). marker_of t.standing)) there ∙ ap Some (sym marks) in
    let many : length machine.kernel.states ≡ length machine.tasks = eq.sound.kernel.states ∙ sym eq.sound.tasks in
    let ats : length (map (λ (t : TaskView). marker_of t.standing) machine.tasks) ≡ length machine.tasks = length-map machine.tasks _ in
    let sts : length (map state_number machine.kernel.states) ≡ length machine.tasks = length-map machine.kernel.states _ ∙ many in
    subst (λ (w : WindowView). IsClosing machine before w (task + 1)) (sym is) (record {
      rest = ap (λ (w : WindowView). with_task w task at state) c.rest;
      at = copies_one _ _ _ task at c.at (omega (arith, below, ats)) (omega (arith, eq.window.at, eq.tasks, ats))
          (got_mapped (λ (t : TaskView). marker_of t.standing) machine.tasks task at marker);
      state = copies_one _ _ _ task state c.state (omega (arith, below, sts)) (omega (arith, eq.window.state, eq.tasks, sts))
          (got_mapped state_number machine.kernel.states task state states);
    })

same_tail : (r e : ℕ) (a b : List Marker) (s t : List ℕ) → a ≡ b → s ≡ t →
    (let x : Tail = record { running = r; ended = e; at = a; state = s } in x) ≡ record { running = r; ended = e; at = b; state = t }
same_tail r e a b s t p q = cc

pub closing_ends : (machine : MachineView) (before now : WindowView) (count : ℕ) → AreEqual machine before → IsClosing machine before now count →
    count ≡ length machine.tasks → now ≡ record before { tail = tail_of machine }
closing_ends machine before now count eq c all =
    let many : length machine.kernel.states ≡ length machine.tasks = eq.sound.kernel.states ∙ sym eq.sound.tasks in
    let ats : length (map (λ (t : TaskView). marker_of t.standing) machine.tasks) ≡ length machine.tasks = length-map machine.tasks _ in
    let sts : length (map state_number machine.kernel.states) ≡ length machine.tasks = length-map machine.kernel.states _ ∙ many in
    c.rest ∙ ap (λ (x : Tail). record before { tail = x }) (same_tail _ _ _ _ _ _
    (copied_all _ _ _ count c.at (omega (arith, ats, all)) (omega (arith, eq.window.at, eq.tasks, all)))
    (copied_all _ _ _ count c.state (omega (arith, sts, all)) (omega (arith, eq.window.state, eq.tasks, all))))

-- the tail of a machine that is where the history is
pub tail_is : (image : ImageView) (machine : MachineView) (h : History) → IsAt image machine h → IsTailOf image (tail_of machine) h
tail_is image machine h at = record {
  running = ap (λ k. k.running) at.kernel;
  ended = ap (λ k. k.ended) at.kernel;
  at = λ t below. mapped_got (λ (t : TaskView). marker_of t.standing) machine.tasks t ∙ ap (option_map (λ (t : TaskView). marker_of t.standing)) (at.each t below);
  state = λ t below. mapped_got state_number machine.kernel.states t ∙ ap (λ k. option_map state_number (slice_get k.states t)) at.kernel;
}

-- what is noted, with its tail
pub closed_recorded : (image : ImageView) (machine : MachineView) (w next : WindowView) (h : History) → StandAt IsNoted image machine w h →
    next ≡ record w { tail = tail_of machine } → IsRecorded image machine next h
closed_recorded image machine w next h n is =
    subst (λ (x : WindowView). IsRecorded image machine x h) (sym is) (record {
      at = n.at;
      window = record {
        shape = n.stood.shape;
        lists = record {
          control = n.stood.lists.control;
          outputs = n.stood.lists.outputs;
          logs = n.stood.lists.logs;
          checks = n.stood.lists.checks;
        };
        tail = tail_is image machine h n.at;
      };
    })

pub recorded_noted : (image : ImageView) (machine : MachineView) (w : WindowView) (h : History) → IsRecorded image machine w h → StandAt IsNoted image machine w h
recorded_noted image machine w h r = record { at = r.at; stood = record { shape = r.window.shape; lists = r.window.lists } }

-- the first tasks have their boot's checkpoint, and the others none
pub record IsBooting (image : ImageView) (machine : MachineView) (w : WindowView) (count : ℕ) : Type 0 where
  pub at : IsAt image machine []
  pub shape : w.shape ≡ shape_of image
  pub control : Holds w.control []
  pub outputs : Holds w.outputs []
  pub logs : (t : ℕ) → t < length image.loads → Holds (log_of w t) []
  pub done : (t : ℕ) → t < count → HoldsChecks (checks_of w t) (checkpoints image t [])
  pub later : (t : ℕ) → count ≤ t → t < length image.loads → HoldsChecks (checks_of w t) []

holds_none : {X : Type 0} (cap : ℕ) → (let none : List X = [] in Holds (kept none 0 cap) none)
holds_none cap = record { items = sym (drop-nil (0 - cap)); total = refl }

holds_no_checks : (cap size : ℕ) → HoldsChecks (kept_checks [] 0 cap size) []
holds_no_checks cap size = record { items = sym (drop-nil (0 - cap)); total = refl }

pub booting_starts : (image : ImageView) (machine : MachineView) (shape : Shape) (w : WindowView) → IsAt image machine [] → shape ≡ shape_of image →
    w ≡ empty_window shape → IsBooting image machine w 0
booting_starts image machine shape w at s is =
    let many : length shape.words ≡ length image.loads = ap (λ (x : Shape). length x.words) s ∙ length-map image.loads _ in
    subst (λ (x : WindowView). IsBooting image machine x 0) (sym is) (record {
      at = at;
      shape = s;
      control = holds_none shape.caps.control;
      outputs = holds_none shape.caps.outputs;
      logs = λ t below. subst (λ r. Holds r [])
          (sym (unwrap_or-slice_get (empty_window shape).logs t (kept [] 0 0)
          ∙ get_or-replicate (length shape.words) t (kept [] 0 shape.caps.logs) (kept [] 0 0) (omega (arith, below, many))))
          (holds_none shape.caps.logs);
      done = λ t below. absurd (omega arith);
      later = λ t from below. subst (λ r. HoldsChecks r [])
          (sym (unwrap_or-slice_get (empty_window shape).checks t (kept_checks [] 0 0 0)
          ∙ get_or-map (λ size. kept_checks [] 0 shape.caps.checks size) shape.words t 0 (kept_checks [] 0 0 0) (omega (arith, below, many))))
          (holds_no_checks shape.caps.checks (get_or shape.words t 0));
    })

boot_list : (image : ImageView) (t : ℕ) → (record { body = body_at image [] t; data_number = 0; control_number = 0 }) ∷ [] ≡ checkpoints image t []
unfolding checkpoints
boot_list image t = refl

same_check : (b c : Body) (d n : ℕ) → b ≡ c → d ≡ 0 → n ≡ 0 → checkpoint b d n ≡ checkpoint c 0 0
same_check b c d n p q r = cc

pub booting_goes_on : (image : ImageView) (machine : MachineView) (w next : WindowView) (count : ℕ) → IsWindow w → IsBooting image machine w count →
    count < length image.loads → next ≡ check_noted machine (Some count) w → IsBooting image machine next (count + 1)
booting_goes_on image machine w next count i b more is =
    let c : Checkpoint = checkpoint_now machine w count in
    let there : count < length w.checks = omega (arith, more, i.checks, shape_tasks image w b.shape) in
    let first : c ≡ checkpoint (body_at image [] count) 0 0 =
    same_check _ _ _ _ (task_is image machine [] count b.at more) (b.logs count more).total b.control.total in
    let new : HoldsChecks (checks_of (with_check w count c) count) (checkpoints image count []) =
    subst (λ ks. HoldsChecks (checks_of (with_check w count c) count) ks) (ap (λ k. k ∷ []) first ∙ boot_list image count)
    (holds_pushed (checks_of w count) (checks_of (with_check w count c) count) c (checks_pushed w count c there) [] (b.later count (omega arith) more)) in
    subst (λ (x : WindowView). IsBooting image machine x (count + 1)) (sym is) (record {
      at = b.at;
      shape = b.shape;
      control = b.control;
      outputs = b.outputs;
      logs = b.logs;
      done = λ t below. elim (cases_Bool (t == count)) [
        | inl e ↦
            subst (λ (k : ℕ). HoldsChecks (checks_of (with_check w count c) k) (checkpoints image k [])) (sym (eqb-true t count e)) new
        | inr e ↦
            let other : t ≢ count = eqb-false t count e in
            subst (λ r. HoldsChecks r (checkpoints image t [])) (sym (checks_others w count c t other)) (b.done t (omega (arith, below, other)))
      ];
      later = λ t from below.
          subst (λ r. HoldsChecks r []) (sym (checks_others w count c t (λ q. (let bad : t < t = omega (arith, from, q) in absurd (omega arith)))))
          (b.later t (omega arith) below);
    })

no_controls : (image : ImageView) → [] ≡ controls image []
unfolding controls
no_controls image = refl

no_outputs : [] ≡ outputs []
unfolding outputs
no_outputs = refl

no_entries : (t : ℕ) → [] ≡ entries t []
unfolding entries
no_entries t = refl

pub booting_ends : (image : ImageView) (machine : MachineView) (w : WindowView) (count : ℕ) → IsBooting image machine w count →
    length image.loads ≤ count → StandAt IsNoted image machine w []
booting_ends image machine w count b all = record {
  at = b.at;
  stood = record {
    shape = b.shape;
    lists = record {
      control = subst (λ cs. Holds w.control cs) (no_controls image) b.control;
      outputs = subst (λ os. Holds w.outputs os) no_outputs b.outputs;
      logs = λ t below. subst (λ es. Holds (log_of w t) es) (no_entries t) (b.logs t below);
      checks = λ t below. b.done t (omega arith);
    };
  };
}

-- the next boot checkpoint has room, and the size of the others
pub booting_size : (image : ImageView) (machine : MachineView) (w : WindowView) (count : ℕ) → IsImage image → IsWindow w → IsBooting image machine w count →
    count < length image.loads → length (task_in machine count).standing.body.words ≡ (checks_of w count).words
booting_size image machine w count i window b more =
    ap (λ (x : Body). length x.words) (task_is image machine [] count b.at more) ∙ ((boot_bodies image i).each count more).words
    ∙ sym (check_size image w count window b.shape more)
