-- The machine after a moment, as a function of the machine before, is where the run has come.
use Rattle.std.proofs.Common.{◌≡◌, ◌≢◌, ℕ, ◌<◌, Bool, true, false, ◌==◌, if◌then◌else◌, List, [], ◌∷◌, length, map, get_or, slice_get, unwrap_or, Option, Some, None, refl, ap, sym, ◌∙◌, subst, arith, inl, inr}
use Rattle.std.proofs.lemmas.Bool.{cases_Bool}
use Rattle.std.proofs.lemmas.List.{same_lists, length-map, get_or-map}
use Rattle.std.proofs.lemmas.Option.{slice_get-get_or, unwrap_or-slice_get, same_Some}
use Rattle.tm_marker.specs.declared.body.Body.{Body}
use Rattle.tm_task.specs.Exec.{Exec, Faults, Calls, Goes, exec}
use Rattle.tm_task.specs.Standing.{Standing, TaskView, task_view, boot_body, went, is_full, args_of}
use Rattle.tm_task.specs.Stepped.{Went}
use Rattle.tm_kernel.specs.State.{KernelState, nobody, stopped}
use Rattle.tm_kernel.specs.Service.{Answered, answer}
use Rattle.tm_kernel.specs.Schedule.{rescheduled, arrived}
use Rattle.tm_image.specs.Image.{ImageView, entry_of, text_of}
use Rattle.tm_system.specs.History.{Steps, Whole, Moment, History}
use Rattle.tm_system.specs.Run.{now, running_at, body_at, no_body, arrival, moment_by, next_moment, turned}
use Rattle.tm_system.specs.Marks.{is_start, backs}
use Rattle.tm_system.specs.Machine.{MachineView, IsAt, IsMachine, task_at, told_of, checkpoint_by, checkpoint_told}
use Rattle.tm_system.specs.Parts.{IsTaskOrNobody}
use Rattle.tm_system.specs.Moving.{task_in, whole_in, moment_in, next_in, moved, told_in}
use Rattle.tm_system.proofs.Moments.{body_put, switched-at}
use Rattle.tm_system.proofs.Turning.{Runs, runs_at, runner_within, told_is, goes_at, call_at, call_spec, fault_at, arrival_at, arrival_spec}
use Rattle.tm_system.proofs.Turning.{next_is as next_moment_is}

machine_of : List TaskView → KernelState → MachineView
machine_of tasks kernel = record { tasks = tasks; kernel = kernel }

pub machine_same : (a b : MachineView) → a.tasks ≡ b.tasks → a.kernel ≡ b.kernel → a ≡ b
unfolding machine_of
machine_same a b p q = ap (λ ts. machine_of ts a.kernel) p ∙ ap (λ k. machine_of b.tasks k) q

-- the tasks of a machine that is where a history is, as they are read
pub runner : (image : ImageView) (machine : MachineView) (h : History) (r : ℕ) → IsAt image machine h → r < length image.loads →
    task_in machine r ≡ task_at image h r
runner image machine h r at there = ap (λ (o : Option TaskView). unwrap_or o (task_view 0 (boot_body 0 []) 0 0)) (at.each r there)

runner_there : (image : ImageView) (machine : MachineView) (h : History) (r : ℕ) → IsAt image machine h → r < length image.loads →
    slice_get machine.tasks r ≡ Some (task_in machine r)
runner_there image machine h r at there = at.each r there ∙ ap Some (sym (runner image machine h r at there))

-- two machines that are where one history is are equal
pub at_same : (image : ImageView) (a b : MachineView) (h : History) → IsAt image a h → IsAt image b h → a ≡ b
at_same image a b h x y =
    machine_same a b
    (same_lists a.tasks b.tasks (x.tasks ∙ sym y.tasks) (λ k d below.
    let there : k < length image.loads = omega (arith, below, x.tasks) in
    sym (unwrap_or-slice_get a.tasks k d) ∙ ap (λ (o : Option TaskView). unwrap_or o d) (x.each k there ∙ sym (y.each k there)) ∙ unwrap_or-slice_get b.tasks k d))
    (x.kernel ∙ sym y.kernel)

-- the whole state of a machine that is where a history is
same_whole : (a b : List Body) (k l : KernelState) → a ≡ b → k ≡ l →
    (let w : Whole = record { bodies = a; kernel = k } in w) ≡ record { bodies = b; kernel = l }
same_whole a b k l p q = cc

pub whole_is : (image : ImageView) (machine : MachineView) (h : History) → IsAt image machine h → whole_in machine ≡ now image h
whole_is image machine h at =
    let body : TaskView → Body = λ (t : TaskView). t.standing.body in
    let none : TaskView = task_view 0 (boot_body 0 []) 0 0 in
    let bodies : List Body = (now image h).bodies in
    let long : length (map body machine.tasks) ≡ length bodies = length-map machine.tasks body ∙ at.tasks ∙ sym at.bodies in
    same_whole (map body machine.tasks) bodies machine.kernel (now image h).kernel
    (same_lists (map body machine.tasks) bodies long (λ k d below.
    let many : length (map body machine.tasks) ≡ length machine.tasks = length-map machine.tasks body in
    let there : k < length image.loads = omega (arith, below, many, at.tasks) in
    let within : k < length bodies = omega (arith, below, long) in
    let here : k < length machine.tasks = omega (arith, below, many) in
    get_or-map body machine.tasks k none d here
    ∙ ap body (sym (unwrap_or-slice_get machine.tasks k none) ∙ runner image machine h k at there)
    ∙ ap (λ (o : Option Body). unwrap_or o no_body) (slice_get-get_or bodies k d within)))
    at.kernel

-- the moment of the running task's next instruction
pub moment_is : (image : ImageView) (machine : MachineView) (h : History) (r : ℕ) (e : Exec) → IsAt image machine h → r < length image.loads →
    moment_in machine r e ≡ moment_by (entry_of image r) (now image h) r (body_at image h r) e
moment_is image machine h r e at there =
    ap (λ (t : TaskView). moment_by t.entry (whole_in machine) r t.standing.body e) (runner image machine h r at there) ∙
    ap (λ (w : Whole). moment_by (entry_of image r) w r (body_at image h r) e) (whole_is image machine h at)

pub next_is : (image : ImageView) (machine : MachineView) (h : History) (r : ℕ) → Runs image h machine r → next_in image machine ≡ next_moment image h
unfolding next_in
next_is image machine h r runs =
    let same : exec (text_of image r) (task_in machine r).standing.body ≡ exec (text_of image r) (body_at image h r) =
    ap (λ (t : TaskView). exec (text_of image r) t.standing.body) (runner image machine h r runs.at runs.there) in
    ap (λ (q : ℕ). moment_in machine q (exec (text_of image q) (task_in machine q).standing.body)) runs.runs ∙
    moment_is image machine h r _ runs.at runs.there ∙
    ap (λ (e : Exec). moment_by (entry_of image r) (now image h) r (body_at image h r) e) same ∙
    sym (next_moment_is image h r _ (runs_at image h machine r runs) refl)

pub went_body : (s : Standing) (next : Body) (back : Bool) → (went s next back).body ≡ next
went_body s next false = refl
went_body s next true = elim (cases_Bool (is_full s)) [ inl e ↦ rw e refl | inr e ↦ rw e refl ]

-- the machine after an instruction of the running task, by what it does
moved_by : (image : ImageView) (machine : MachineView) (h : History) (r : ℕ) (e : Exec) → Runs image h machine r →
    exec (text_of image r) (body_at image h r) ≡ e →
    IsAt image (moved machine (moment_by (entry_of image r) (now image h) r (body_at image h r) e)) (next_moment image h ∷ h)
unfolding moved
moved_by image machine h r (Goes next back) runs did =
    let t : TaskView = task_in machine r in
    let m : Moment = moment_by (entry_of image r) (now image h) r (body_at image h r) (Goes next back) in
    let put : unwrap_or (slice_get m.after.bodies r) no_body ≡ next = body_put (now image h).bodies r next (omega (arith, runs.there, runs.at.bodies)) in
    let after : TaskView = record t { standing = went t.standing (unwrap_or (slice_get m.after.bodies r) no_body) back } in
    let body : after.standing.body ≡ unwrap_or (slice_get m.after.bodies r) no_body = went_body t.standing _ back in
    let w : Went (text_of image r) t after = record {
      back = back;
      executed = ap (λ (x : TaskView). exec (text_of image r) x.standing.body) (runner image machine h r runs.at runs.there) ∙ did
          ∙ ap (λ (b : Body). Goes b back) (sym (body ∙ put));
      standing = ap (λ (b : Body). went t.standing b back) (sym body);
      entry = refl;
    } in
    goes_at image h machine _ r t after runs (runner_there image machine h r runs.at runs.there) w
    (ap (λ (k : KernelState). let x : MachineView = record (moved machine m) { kernel = k } in x) (sym runs.at.kernel))
moved_by image machine h r (Calls service) runs did =
    let t : TaskView = task_in machine r in
    let a : Answered = answer (now image h).kernel r service (args_of (body_at image h r)) in
    let is : a ≡ answer machine.kernel r service (args_of t.standing.body) =
    ap (λ (k : KernelState). answer k r service (args_of (body_at image h r))) (sym runs.at.kernel) ∙
    ap (λ (x : TaskView). answer machine.kernel r service (args_of x.standing.body)) (sym (runner image machine h r runs.at runs.there)) in
    call_at image h machine _ r service t a runs did (runner_there image machine h r runs.at runs.there) is refl
    (call_spec (now image h).kernel r service (args_of (body_at image h r)) ∙ ap (λ (k : KernelState). k.spec) (sym runs.at.kernel)) refl
moved_by image machine h r (Faults cause) runs did =
    fault_at image h machine _ r cause runs did (ap (λ (k : KernelState). stopped k true) (sym runs.at.kernel)) refl

pub moved_at : (image : ImageView) (machine : MachineView) (h : History) (r : ℕ) → Runs image h machine r →
    IsAt image (moved machine (next_moment image h)) (next_moment image h ∷ h)
unfolding moved
moved_at image machine h r runs =
    let is : next_moment image h ≡ moment_by (entry_of image r) (now image h) r (body_at image h r) (exec (text_of image r) (body_at image h r)) =
    next_moment_is image h r _ (runs_at image h machine r runs) refl in
    let P : Moment → Type 0 = λ (m : Moment). IsAt image (moved machine m) (next_moment image h ∷ h) in
    subst P (sym is) (moved_by image machine h r _ runs refl)

-- and after an arrival
pub come_at : (image : ImageView) (machine : MachineView) (h : History) (mask : ℕ) (ports : List ℕ) → IsAt image machine h →
    IsAt image (moved machine (arrival (now image h) mask ports)) (arrival (now image h) mask ports ∷ h)
unfolding moved
come_at image machine h mask ports at =
    arrival_at image h machine _ mask ports at (ap (λ (k : KernelState). rescheduled (arrived k mask ports)) (sym at.kernel))
    (arrival_spec (now image h).kernel mask ports ∙ ap (λ (k : KernelState). k.spec) (sym at.kernel)) refl

-- what the machine tells of a moment is what the lists of the run gain by it
pub told_at : (image : ImageView) (machine : MachineView) (h : History) (m : Moment) → IsAt image machine h →
    IsAt image (moved machine m) (m ∷ h) → IsTaskOrNobody (length image.loads) (running_at image h) →
    IsTaskOrNobody (length image.loads) m.after.kernel.running →
    checkpoint_by (λ task. (task_in machine task).standing.count) m.deed ≡ checkpoint_told m.deed h → told_in machine m ≡ told_of image m h
unfolding told_in moved
told_at image machine h m at later before after checked =
    let same : machine.kernel.running ≡ running_at image h = ap (λ (k : KernelState). k.running) at.kernel in
    told_is image m h _ _ _ _ _ _ refl refl checked
    (switched-at image (moved machine m) m h machine.kernel.running m.leaves later same refl
    (subst (IsTaskOrNobody (length image.loads)) (sym same) before) after)
    refl refl

-- an instruction takes a checkpoint where its history says
checked_by : (image : ImageView) (machine : MachineView) (h : History) (entry : ℕ) (w : Whole) (r : ℕ) (b : Body) (e : Exec) →
    (task_in machine r).standing.count ≡ backs r h →
    checkpoint_by (λ task. (task_in machine task).standing.count) (moment_by entry w r b e).deed ≡ checkpoint_told (moment_by entry w r b e).deed h
checked_by image machine h entry w r b (Goes next back) count = ap (λ (n : ℕ). if is_start r (Steps r back) n then Some r else None) count
checked_by image machine h entry w r b (Calls service) count =
    ap (λ (n : ℕ). if is_start r (moment_by entry w r b (Calls service)).deed n then Some r else None) count
checked_by image machine h entry w r b (Faults cause) count = refl

pub checked_at : (image : ImageView) (machine : MachineView) (h : History) (r : ℕ) → Runs image h machine r →
    checkpoint_by (λ task. (task_in machine task).standing.count) (next_moment image h).deed ≡ checkpoint_told (next_moment image h).deed h
checked_at image machine h r runs =
    let q : ℕ = running_at image h in
    let same : r ≡ q = sym (runs_at image h machine r runs) in
    checked_by image machine h (entry_of image q) (now image h) q (body_at image h q) (exec (text_of image q) (body_at image h q))
    (subst (λ (k : ℕ). (task_in machine k).standing.count ≡ backs k h) same
    (ap (λ (t : TaskView). t.standing.count) (runner image machine h r runs.at runs.there)))
