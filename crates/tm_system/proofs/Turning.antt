-- Each moment of the machine is the run's.
use Rattle.std.proofs.Common.{◌≡◌, ◌≢◌, ℕ, ◌+◌, ◌<◌, Bool, true, false, ◌&&◌, ◌==◌, if◌then◌else◌, List, ◌∷◌, length, refl, subst, ap, sym, ◌∙◌, inl, inr, arith, Option, Some, None, slice_get, slice_set}
use Rattle.std.proofs.lemmas.Bool.{cases_Bool, eq-eqb, ne_eqb}
use Rattle.std.proofs.lemmas.Option.{slice_get_within, same_Some}
use Rattle.tm_marker.specs.declared.body.Body.{Body}
use Rattle.tm_marker.specs.declared.entries.DataEntry.{DataEntry}
use Rattle.tm_marker.specs.declared.entries.OutputEntry.{OutputEntry}
use Rattle.tm_marker.specs.declared.entries.Switch.{Switch}
use Rattle.tm_marker.specs.declared.entries.Kind.{Kind}
use Rattle.tm_marker.specs.declared.entries.Kind.TheVariants.{Fault}
use Rattle.tm_marker.specs.declared.marker.TheConstants.{EPOCH_LENGTH}
use Rattle.tm_task.specs.declared.outcome.Cause.{Cause}
use Rattle.tm_task.specs.Exec.{Exec, Faults, Calls, Goes, exec}
use Rattle.tm_task.specs.Standing.{Standing, TaskView, went, is_full, answered, begins_epoch, reply, args_of}
use Rattle.tm_task.specs.Stepped.{Went, DidRun, DidForce}
use Rattle.tm_kernel.specs.State.{KernelState, IsKernel, IsRunning, nobody, stopped}
use Rattle.tm_kernel.specs.Service.{Answered, answer}
use Rattle.tm_kernel.specs.Schedule.{rescheduled, arrived}
use Rattle.tm_kernel.specs.declared.spec.KernelSpec.{KernelSpec}
use Rattle.tm_kernel.proofs.Rescheduling.{rescheduling_same_rest, arrival_latches}
use Rattle.tm_kernel.proofs.Answering.{call_same_rest}
use Rattle.tm_image.specs.Image.{ImageView, entry_of, text_of}
use Rattle.tm_system.specs.declared.machine.Told.{Told}
use Rattle.tm_system.specs.History.{Steps, Answers, Faulted, Moment, History}
use Rattle.tm_system.specs.Run.{now, running_at, body_at, arrival, arrives, moment_by, call_moment, left_by, next_moment, turned}
use Rattle.tm_system.specs.Marks.{is_start, backs, standing_at}
use Rattle.tm_system.specs.Controls.{is_switch, switch_at, output_of}
use Rattle.tm_system.specs.Telling.{cause_of}
use Rattle.tm_system.specs.Machine.{MachineView, IsAt, IsMachine, task_at, told_of, arrival_told, entry_told, checkpoint_told}
use Rattle.tm_system.specs.Parts.{IsTaskOrNobody, switched}
use Rattle.tm_system.proofs.Marking.{went_at, answered_at, steps_apart, answers_apart, faulted_apart, arrives_apart}
use Rattle.tm_system.proofs.Moments.{rested, moved, body_put, switched-at}

-- a task runs, one of the image's
pub record Runs (image : ImageView) (h : History) (old : MachineView) (r : ℕ) : Type 0 where
  pub at : IsAt image old h
  pub runs : old.kernel.running ≡ r
  pub there : r < length image.loads

-- the running task is nobody, or one of the machine's
pub runner_within : (machine : MachineView) → IsMachine machine → IsTaskOrNobody (length machine.tasks) machine.kernel.running
runner_within machine sound = elim sound.kernel.running [
  | inl e ↦ inl e
  | inr e ↦ inr (omega (arith, slice_get_within machine.kernel.states machine.kernel.running _ e, sound.kernel.states, sound.tasks))
]

-- who runs by the machine runs by the run
pub runs_at : (image : ImageView) (h : History) (old : MachineView) (r : ℕ) → Runs image h old r → running_at image h ≡ r
runs_at image h old r runs = sym (ap (λ (k : KernelState). k.running) runs.at.kernel) ∙ runs.runs

-- the running task, as the machine has it
pub runner_is : (image : ImageView) (h : History) (old : MachineView) (r : ℕ) (before : TaskView) → Runs image h old r →
    slice_get old.tasks r ≡ Some before → before ≡ task_at image h r
runner_is image h old r before runs there = same_Some _ _ (sym there ∙ runs.at.each r runs.there)

-- while a task runs, a turn is its next moment
pub turned_runs : (image : ImageView) (h : History) (r : ℕ) → running_at image h ≡ r → r ≢ nobody →
    turned image h ≡ next_moment image h ∷ h
turned_runs image h r ran somebody = rw (ne_eqb (running_at image h) nobody (λ e. somebody (sym ran ∙ e))) refl

-- the next moment, by what the instruction does
pub next_is : (image : ImageView) (h : History) (r : ℕ) (e : Exec) → running_at image h ≡ r →
    exec (text_of image r) (body_at image h r) ≡ e →
    next_moment image h ≡ moment_by (entry_of image r) (now image h) r (body_at image h r) e
next_is image h r e ran did =
    let P : ℕ → Type 0 = λ (q : ℕ).
    moment_by (entry_of image q) (now image h) q (body_at image h q) (exec (text_of image q) (body_at image h q))
    ≡ moment_by (entry_of image r) (now image h) r (body_at image h r) e in
    subst P (sym ran) (ap (λ (x : Exec). moment_by (entry_of image r) (now image h) r (body_at image h r) x) did)

-- two tasks of equal parts
pub same_parts : (e e' : ℕ) (s s' : Standing) → e ≡ e' → s ≡ s' →
    (let t : TaskView = record { entry = e; standing = s } in t) ≡ record { entry = e'; standing = s' }
same_parts e e' s s' p q = cc

-- what is told of a moment, by its parts
pub told_is : (image : ImageView) (m : Moment) (h : History)
    (entry : Option DataEntry) (output : Option OutputEntry) (checkpoint : Option ℕ) (switch : Option Switch) (fault : ℕ) (idle : Bool) →
    entry ≡ entry_told m.deed → output ≡ output_of m.deed → checkpoint ≡ checkpoint_told m.deed h →
    switch ≡ (if is_switch image m h then Some (switch_at image m h) else None) → fault ≡ cause_of m.deed →
    idle ≡ (m.after.kernel.running == nobody) →
    (let t : Told = record { entry = entry; output = output; checkpoint = checkpoint; switch = switch; fault = fault; idle = idle } in t)
    ≡ told_of image m h
told_is image m h entry output checkpoint switch fault idle a b c d e f = cc

-- an instruction that went on: its moment, and the machine after it
goes_moment : (image : ImageView) (h : History) (old : MachineView) (r : ℕ) (before after : TaskView) (runs : Runs image h old r) →
    slice_get old.tasks r ≡ Some before → (w : Went (text_of image r) before after) →
    next_moment image h ≡ moment_by (entry_of image r) (now image h) r (body_at image h r) (Goes after.standing.body w.back)
goes_moment image h old r before after runs there w =
    let body : before.standing.body ≡ body_at image h r =
    ap (λ (t : TaskView). t.standing.body) (runner_is image h old r before runs there) in
    next_is image h r _ (runs_at image h old r runs)
    (ap (λ (b : Body). exec (text_of image r) b) (sym body) ∙ w.executed)

pub goes_at : (image : ImageView) (h : History) (old new : MachineView) (r : ℕ) (before after : TaskView) → Runs image h old r →
    slice_get old.tasks r ≡ Some before → Went (text_of image r) before after →
    new ≡ record old { tasks = slice_set old.tasks r after } → IsAt image new (next_moment image h ∷ h)
goes_at image h old new r before after runs there w rest =
    let m : Moment = moment_by (entry_of image r) (now image h) r (body_at image h r) (Goes after.standing.body w.back) in
    let is : before ≡ task_at image h r = runner_is image h old r before runs there in
    let within : r < length (now image h).bodies = omega (arith, runs.there, runs.at.bodies) in
    let standing : after.standing ≡ standing_at image (m ∷ h) r =
    w.standing ∙ ap (λ (t : TaskView). went t.standing after.standing.body w.back) is ∙
    sym (went_at image h r after.standing.body m.after w.back (body_put (now image h).bodies r after.standing.body within)) in
    let here : after ≡ task_at image (m ∷ h) r =
    same_parts after.entry (entry_of image r) after.standing _ (w.entry ∙ ap (λ (t : TaskView). t.entry) is) standing in
    let P : Moment → Type 0 = λ (x : Moment). IsAt image new (x ∷ h) in
    subst P (sym (goes_moment image h old r before after runs there w))
    (moved image h old new m r after.standing.body after runs.at runs.there
    (ap (λ (x : MachineView). x.kernel) rest ∙ runs.at.kernel)
    (ap (λ (x : MachineView). x.kernel.spec) rest)
    (λ t other. steps_apart t r w.back other) refl
    (ap (λ (x : MachineView). x.tasks) rest) here)

-- whether an instruction that went on starts an epoch shows in the epoch
pub went_stays : (s : Standing) (next : Body) (back : Bool) → (went s next back).epoch ≡ s.epoch → (back && is_full s) ≡ false
went_stays s next false e = refl
went_stays s next true e = elim (cases_Bool (is_full s)) [
  | inl full ↦
      let up : (if is_full s then s.epoch + 1 else s.epoch) ≡ s.epoch + 1 = rw full refl in
      let here : (went s next true).epoch ≡ s.epoch + 1 = rw full refl in
      absurd (omega arith)
  | inr more ↦ more
]

pub went_starts : (s : Standing) (next : Body) (back : Bool) → (went s next back).epoch ≡ s.epoch + 1 → (back && is_full s) ≡ true
went_starts s next false e = absurd (omega arith)
went_starts s next true e = elim (cases_Bool (is_full s)) [
  | inl full ↦ full
  | inr more ↦
      let here : (went s next true).epoch ≡ s.epoch = rw more refl in
      absurd (omega arith)
]

-- an answered call: its moment, the machine after it, and what is told
call_is : (image : ImageView) (h : History) (old : MachineView) (r service : ℕ) (before : TaskView) (a : Answered) → Runs image h old r →
    exec (text_of image r) (body_at image h r) ≡ Calls service → slice_get old.tasks r ≡ Some before →
    a ≡ answer old.kernel r service (args_of before.standing.body) →
    next_moment image h ≡ call_moment (entry_of image r) (now image h) r (body_at image h r) a
call_is image h old r service before a runs did there is_a =
    let is : before ≡ task_at image h r = runner_is image h old r before runs there in
    let same : a ≡ answer (now image h).kernel r service (args_of (body_at image h r)) =
    is_a ∙ ap (λ (k : KernelState). answer k r service (args_of before.standing.body)) runs.at.kernel ∙
    ap (λ (t : TaskView). answer (now image h).kernel r service (args_of t.standing.body)) is in
    next_is image h r (Calls service) (runs_at image h old r runs) did ∙
    ap (λ (x : Answered). call_moment (entry_of image r) (now image h) r (body_at image h r) x) (sym same)

pub call_at : (image : ImageView) (h : History) (old new : MachineView) (r service : ℕ) (before : TaskView) (a : Answered) → Runs image h old r →
    exec (text_of image r) (body_at image h r) ≡ Calls service → slice_get old.tasks r ≡ Some before →
    a ≡ answer old.kernel r service (args_of before.standing.body) →
    new.kernel ≡ rescheduled a.kernel → new.kernel.spec ≡ old.kernel.spec →
    new.tasks ≡ slice_set old.tasks r (record before { standing = answered before.entry before.standing a.entry }) →
    IsAt image new (next_moment image h ∷ h)
call_at image h old new r service before a runs did there is_a kernel spec tasks =
    let m : Moment = call_moment (entry_of image r) (now image h) r (body_at image h r) a in
    let is : before ≡ task_at image h r = runner_is image h old r before runs there in
    let within : r < length (now image h).bodies = omega (arith, runs.there, runs.at.bodies) in
    let next : Body = reply (entry_of image r) (body_at image h r) a.entry in
    let standing : answered before.entry before.standing a.entry ≡ standing_at image (m ∷ h) r =
    ap (λ (t : TaskView). answered t.entry t.standing a.entry) is ∙
    sym (answered_at image h r a.entry a.output (left_by a.need) m.after (body_put (now image h).bodies r next within)) in
    let here : (record before { standing = answered before.entry before.standing a.entry }) ≡ task_at image (m ∷ h) r =
    same_parts before.entry (entry_of image r) _ _ (ap (λ (t : TaskView). t.entry) is) standing in
    let P : Moment → Type 0 = λ (x : Moment). IsAt image new (x ∷ h) in
    subst P (sym (call_is image h old r service before a runs did there is_a))
    (moved image h old new m r next _ runs.at runs.there kernel spec
    (λ t other. answers_apart t r a.entry a.output other) refl tasks here)

-- a fault: its moment, the machine after it, and what is told
pub fault_at : (image : ImageView) (h : History) (old new : MachineView) (r : ℕ) (cause : Cause) → Runs image h old r →
    exec (text_of image r) (body_at image h r) ≡ Faults cause →
    new.kernel ≡ stopped old.kernel true → new.tasks ≡ old.tasks → IsAt image new (next_moment image h ∷ h)
fault_at image h old new r cause runs did kernel tasks =
    let m : Moment = moment_by (entry_of image r) (now image h) r (body_at image h r) (Faults cause) in
    let P : Moment → Type 0 = λ (x : Moment). IsAt image new (x ∷ h) in
    subst P (sym (next_is image h r (Faults cause) (runs_at image h old r runs) did))
    (rested image h old new m runs.at
    (kernel ∙ ap (λ (k : KernelState). stopped k true) runs.at.kernel)
    (ap (λ (k : KernelState). k.spec) kernel)
    (λ t. faulted_apart t r cause) refl tasks)

-- an arrival and a call leave the kernel's specification
pub arrival_spec : (k : KernelState) (mask : ℕ) (ports : List ℕ) → (rescheduled (arrived k mask ports)).spec ≡ k.spec
arrival_spec k mask ports = (rescheduling_same_rest (arrived k mask ports)).spec ∙ (arrival_latches k mask ports).spec

pub call_spec : (k : KernelState) (task service : ℕ) (args : List ℕ) → (rescheduled (answer k task service args).kernel).spec ≡ k.spec
call_spec k task service args =
    (rescheduling_same_rest (answer k task service args).kernel).spec ∙ (call_same_rest k task service args).spec

-- a machine of the same tasks, whose kernel has the same specification
pub sound_after : (old new : MachineView) → IsMachine old → length new.tasks ≡ length old.tasks →
    new.kernel.spec ≡ old.kernel.spec → IsKernel new.kernel → IsMachine new
sound_after old new sound tasks spec kernel = record {
  tasks = tasks ∙ sound.tasks ∙ sym (ap (λ (s : KernelSpec). length s.tasks) spec);
  kernel = kernel;
}

-- an arrival: the machine after it, and what is told
pub arrival_at : (image : ImageView) (h : History) (old new : MachineView) (mask : ℕ) (ports : List ℕ) → IsAt image old h →
    new.kernel ≡ rescheduled (arrived old.kernel mask ports) → new.kernel.spec ≡ old.kernel.spec → new.tasks ≡ old.tasks →
    IsAt image new (arrival (now image h) mask ports ∷ h)
arrival_at image h old new mask ports at kernel spec tasks =
    rested image h old new (arrival (now image h) mask ports) at
    (kernel ∙ ap (λ (k : KernelState). rescheduled (arrived k mask ports)) at.kernel)
    spec (λ t. arrives_apart t mask ports) refl tasks

-- while the run goes on, an arrival is a moment
pub arrives_goes : (image : ImageView) (h : History) (mask : ℕ) (ports : List ℕ) → (now image h).kernel.ended ≡ 0 →
    arrives image mask ports h ≡ arrival (now image h) mask ports ∷ h
arrives_goes image h mask ports goes = rw (eq-eqb (now image h).kernel.ended 0 goes) refl

pub arrival_told_goes : (image : ImageView) (h : History) (mask : ℕ) (ports : List ℕ) → (now image h).kernel.ended ≡ 0 →
    arrival_told image mask ports h ≡ told_of image (arrival (now image h) mask ports) h
arrival_told_goes image h mask ports goes = rw (eq-eqb (now image h).kernel.ended 0 goes) refl
