-- What the machine does at a moment, from its parts.
use Rattle.std.proofs.Common.{◌≡◌, ◌≢◌, ℕ, zero, suc, ◌+◌, ◌<◌, Bool, true, false, ◌&&◌, ◌||◌, not, ◌==◌, if◌then◌else◌, List, [], ◌∷◌, length, map, slice_get, slice_set, length-set, unwrap_or, Option, Some, None, is_some, refl, ap, sym, ◌∙◌, subst, arith, inl, inr}
use Rattle.std.proofs.lemmas.Bool.{cases_Bool, cases_eq, eq-eqb, ne_eqb, eqb-true}
use Rattle.std.proofs.lemmas.List.{length-map, set-set}
use Rattle.std.proofs.lemmas.Option.{same_Some}
use Rattle.tm_rv.specs.Code.{Text}
use Rattle.tm_marker.specs.declared.body.Body.{Body}
use Rattle.tm_marker.specs.declared.entries.DataEntry.{DataEntry}
use Rattle.tm_marker.specs.declared.entries.OutputEntry.{OutputEntry}
use Rattle.tm_marker.specs.declared.entries.Switch.{Switch}
use Rattle.tm_marker.specs.declared.entries.Kind.{Kind}
use Rattle.tm_marker.specs.declared.entries.Kind.TheVariants.{Fault}
use Rattle.tm_marker.specs.declared.marker.TheConstants.{EPOCH_LENGTH}
use Rattle.tm_task.specs.declared.outcome.Cause.{Cause}
use Rattle.tm_task.specs.declared.outcome.Stepped.TheVariants.{Ran, Forced}
use Rattle.tm_task.specs.Exec.{Exec, Faults, Calls, Goes, exec}
use Rattle.tm_task.specs.Standing.{Standing, TaskView, task_view, boot_body, went, is_full, answered, begins_epoch, args_of}
use Rattle.tm_task.specs.Stepped.{Went, DidRun, DidForce}
use Rattle.tm_task.specs.RunsOn.{RunsOn}
use Rattle.tm_kernel.specs.State.{KernelState, nobody, stopped}
use Rattle.tm_kernel.specs.Service.{Answered, answer}
use Rattle.tm_kernel.specs.Schedule.{rescheduled, arrived}
use Rattle.tm_kernel.proofs.Keeping.{slice_get_set_same}
use Rattle.tm_image.specs.Image.{ImageView, text_of}
use Rattle.tm_system.specs.declared.machine.Told.{Told}
use Rattle.tm_system.specs.History.{Steps, Answers, Faulted, Moment, History}
use Rattle.tm_system.specs.Run.{now, running_at, no_body, arrival, next_moment, turns, left_by}
use Rattle.tm_system.specs.Marks.{is_start}
use Rattle.tm_system.specs.Telling.{cause_of}
use Rattle.tm_system.specs.Machine.{MachineView, IsAt, IsMachine, told_of, told_going_on, IsQuiet}
use Rattle.tm_system.specs.Parts.{IsTaskOrNobody, StepsTask, RunsTask, switched}
use Rattle.tm_system.specs.Moving.{task_in, whole_in, moment_in, next_in, moved, told_in, Does, DoesQuietly}
use Rattle.tm_system.proofs.Calling.{IsCalled, answer_is, called_kernel, called_entry, called_tasks, answer_same}
use Rattle.tm_system.proofs.Moments.{body_put}
use Rattle.tm_system.proofs.Moving.{went_body, machine_same, next_is, moved_at, told_at, checked_at, come_at, whole_is}
use Rattle.tm_system.proofs.Playing.{turned_on, turns_none, turns_next}
use Rattle.tm_system.proofs.Stepping.{put_back}
use Rattle.tm_system.proofs.Turning.{Runs, runs_at, runner_within, same_parts, went_stays, went_starts}

same_told : (e f : Option DataEntry) (o p : Option OutputEntry) (c d : Option ℕ) (s t : Option Switch) (a b : ℕ) (i j : Bool) →
    e ≡ f → o ≡ p → c ≡ d → s ≡ t → a ≡ b → i ≡ j →
    (let x : Told = record { entry = e; output = o; checkpoint = c; switch = s; fault = a; idle = i } in x)
    ≡ record { entry = f; output = p; checkpoint = d; switch = t; fault = b; idle = j }
same_told e f o p c d s t a b i j ee oo cc' ss aa ii = cc

-- the task as it is read
task_is : (machine : MachineView) (r : ℕ) (t : TaskView) → slice_get machine.tasks r ≡ Some t → task_in machine r ≡ t
task_is machine r t there = ap (λ (o : Option TaskView). unwrap_or o (task_view 0 (boot_body 0 []) 0 0)) there

-- the running task's next moment, by what its instruction does
next_by : (image : ImageView) (machine : MachineView) (r : ℕ) (e : Exec) → r ≡ machine.kernel.running →
    exec (text_of image r) (task_in machine r).standing.body ≡ e → next_in image machine ≡ moment_in machine r e
unfolding next_in
next_by image machine r e runs did =
    subst (λ (q : ℕ). moment_in machine q (exec (text_of image q) (task_in machine q).standing.body) ≡ moment_in machine r e) runs
    (ap (λ (x : Exec). moment_in machine r x) did)

-- where the same task runs on, there is no control entry
none_switched : (machine : MachineView) (from : ℕ) → from ≡ machine.kernel.running → switched machine from None ≡ None
none_switched machine from same = rw (eq-eqb from machine.kernel.running same) refl

-- an instruction that went on, in its epoch or by starting one
went_does : (old new : MachineView) (r : ℕ) (text : Text) (before after : TaskView) (checkpoint : Option ℕ) → r ≡ old.kernel.running → r ≢ nobody →
    r < length old.tasks → slice_get old.tasks r ≡ Some before → (w : Went text before after) →
    new ≡ record old { tasks = slice_set old.tasks r after } →
    checkpoint ≡ (if w.back && is_full before.standing then Some r else None) →
    Does old (moment_in old r (Goes after.standing.body w.back))
    (record { entry = None; output = None; checkpoint = checkpoint; switch = None; fault = 0; idle = false }) new
unfolding moved told_in
went_does old new r text before after checkpoint runs somebody within there w rest checked =
    let t : TaskView = task_in old r in
    let t_is : t ≡ before = task_is old r before there in
    let m : Moment = moment_in old r (Goes after.standing.body w.back) in
    let many : length (whole_in old).bodies ≡ length old.tasks = length-map old.tasks (λ (x : TaskView). x.standing.body) in
    let put : unwrap_or (slice_get m.after.bodies r) no_body ≡ after.standing.body =
    body_put (whole_in old).bodies r after.standing.body (omega (arith, within, many)) in
    let standing : went t.standing (unwrap_or (slice_get m.after.bodies r) no_body) w.back ≡ after.standing =
    ap (λ (b : Body). went t.standing b w.back) put ∙ ap (λ (x : TaskView). went x.standing after.standing.body w.back) t_is ∙ sym w.standing in
    let task : after ≡ record t { standing = went t.standing (unwrap_or (slice_get m.after.bodies r) no_body) w.back } =
    same_parts after.entry t.entry after.standing _ (w.entry ∙ ap (λ (x : TaskView). x.entry) (sym t_is)) (sym standing) in
    let machine : new ≡ moved old m = rest ∙ ap (λ (x : TaskView). record old { tasks = slice_set old.tasks r x }) task in
    record {
      machine = machine;
      tells = same_told _ _ _ _ _ _ _ _ _ _ _ _ refl refl
          (checked ∙ ap (λ (x : TaskView). if w.back && is_full x.standing then Some r else None) (sym t_is)
          ∙ ap (λ (b : Bool). if b then Some r else None) (sym (start_is r w.back t.standing.count)))
          (sym (none_switched (moved old m) old.kernel.running refl))
          refl
          (sym (ne_eqb old.kernel.running nobody (λ e. somebody (runs ∙ e))));
    }
  where
    start_is : (r : ℕ) (back : Bool) (count : ℕ) → is_start r (Steps r back) count ≡ (back && (count + 1 == EPOCH_LENGTH))
    start_is r back count = rw (eq-eqb r r refl) refl

-- a turn of the machine: the running task by its text of the image
pub record Turns (image : ImageView) (old : MachineView) (r : ℕ) (text : Text) : Type 0 where
  pub runs : r ≡ old.kernel.running
  pub somebody : r ≢ nobody
  pub within : r < length old.tasks
  pub text_is : text ≡ text_of image r

executes : (image : ImageView) (old : MachineView) (r : ℕ) (text : Text) (before : TaskView) (e : Exec) → Turns image old r text →
    slice_get old.tasks r ≡ Some before → exec text before.standing.body ≡ e → exec (text_of image r) (task_in old r).standing.body ≡ e
executes image old r text before e t there did =
    ap (λ (x : TaskView). exec (text_of image r) x.standing.body) (task_is old r before there) ∙
    ap (λ (x : Text). exec x before.standing.body) (sym t.text_is) ∙ did

pub ran_does : (image : ImageView) (old new : MachineView) (r : ℕ) (text : Text) → Turns image old r text → StepsTask text r old Ran new →
    Does old (next_in image old) told_going_on new
ran_does image old new r text t s =
    let w = s.did.goes in
    let stays : (w.back && is_full s.before.standing) ≡ false =
    went_stays s.before.standing s.after.standing.body w.back (sym (ap (λ (x : Standing). x.epoch) w.standing) ∙ s.did.epoch) in
    subst (λ (m : Moment). Does old m told_going_on new)
    (sym (next_by image old r _ t.runs (executes image old r text s.before _ t s.there w.executed)))
    (went_does old new r text s.before s.after None t.runs t.somebody t.within s.there w s.rest (rw stays refl))

pub forced_does : (image : ImageView) (old new : MachineView) (r : ℕ) (text : Text) → Turns image old r text → StepsTask text r old Forced new →
    Does old (next_in image old) (record told_going_on { checkpoint = Some r }) new
forced_does image old new r text t s =
    let w = s.did.goes in
    let starts : (w.back && is_full s.before.standing) ≡ true =
    went_starts s.before.standing s.after.standing.body w.back (sym (ap (λ (x : Standing). x.epoch) w.standing) ∙ s.did.epoch) in
    subst (λ (m : Moment). Does old m (record told_going_on { checkpoint = Some r }) new)
    (sym (next_by image old r _ t.runs (executes image old r text s.before _ t s.there w.executed)))
    (went_does old new r text s.before s.after (Some r) t.runs t.somebody t.within s.there w s.rest (rw starts refl))

-- a call or a fault that the machine did, as the next moment
pub next_does : (image : ImageView) (old middle new : MachineView) (r : ℕ) (text : Text) (before : TaskView) (e : Exec) (told : Told) →
    Turns image old r text → slice_get old.tasks r ≡ Some before → exec text before.standing.body ≡ e → middle ≡ old →
    Does middle (moment_in middle r e) told new → Does old (next_in image old) told new
next_does image old middle new r text before e told t there did same does =
    subst (λ (m : Moment). Does old m told new) (sym (next_by image old r e t.runs (executes image old r text before e t there did)))
    (subst (λ (x : MachineView). Does x (moment_in x r e) told new) same does)

-- an answered call
pub call_does : (old middle new : MachineView) (r service : ℕ) (before : TaskView) (args : List ℕ) (kernel : KernelState) (entry : DataEntry) →
    r ≡ old.kernel.running → IsCalled old middle new r service before args kernel entry →
    (output : Option OutputEntry) (checkpoint : Option ℕ) (leaves : Option Kind) (switch : Option Switch) (fault : ℕ) (idle : Bool) →
    output ≡ (answer old.kernel r service args).output →
    checkpoint ≡ (if begins_epoch entry then Some r else None) →
    leaves ≡ left_by (answer old.kernel r service args).need → switch ≡ switched new r leaves →
    fault ≡ 0 → idle ≡ (new.kernel.running == nobody) →
    Does old (moment_in old r (Calls service))
    (record { entry = Some entry; output = output; checkpoint = checkpoint; switch = switch; fault = fault; idle = idle }) new
unfolding moved told_in
call_does old middle new r service before args kernel entry runs c output checkpoint leaves switch fault idle o k l s f i =
    let t : TaskView = task_in old r in
    let t_is : t ≡ before = task_is old r before c.there in
    let a : Answered = answer old.kernel r service (args_of t.standing.body) in
    let same : answer_is old r service before ≡ a = ap (λ (x : TaskView). answer old.kernel r service (args_of x.standing.body)) (sym t_is) in
    let args_same : answer old.kernel r service args ≡ a = answer_same old r service before args c.args_is ∙ same in
    let m : Moment = moment_in old r (Calls service) in
    let entry_is : entry ≡ a.entry = called_entry old middle new r service before args kernel entry c ∙ ap (λ (x : Answered). x.entry) same in
    let kernel_is : new.kernel ≡ rescheduled a.kernel =
    called_kernel old middle new r service before args kernel entry c ∙ ap (λ (x : Answered). rescheduled x.kernel) same in
    let tasks_is : new.tasks ≡ slice_set old.tasks r (record t { standing = answered t.entry t.standing a.entry }) =
    called_tasks old middle new r service before args kernel entry c ∙
    ap (λ (x : Answered). slice_set old.tasks r (record before { standing = answered before.entry before.standing x.entry })) same ∙
    ap (λ (x : TaskView). slice_set old.tasks r (record x { standing = answered x.entry x.standing a.entry })) (sym t_is) in
    let machine : new ≡ moved old m = machine_same new (moved old m) tasks_is kernel_is in
    record {
      machine = machine;
      tells = same_told _ _ _ _ _ _ _ _ _ _ _ _
          (ap (λ (e : DataEntry). Some e) entry_is)
          (o ∙ ap (λ (x : Answered). x.output) args_same)
          (k ∙ ap (λ (e : DataEntry). if begins_epoch e then Some r else None) entry_is
          ∙ ap (λ (b : Bool). if b then Some r else None) (sym (start_is r a.entry a.output t.standing.count)))
          (s ∙ ap (λ (x : MachineView). switched x r leaves) machine ∙ ap (λ (q : ℕ). switched (moved old m) q leaves) runs
          ∙ ap (λ (x : Option Kind). switched (moved old m) old.kernel.running x) (l ∙ ap (λ (x : Answered). left_by x.need) args_same))
          f
          (i ∙ ap (λ (x : KernelState). x.running == nobody) kernel_is);
    }
  where
    start_is : (r : ℕ) (e : DataEntry) (o : Option OutputEntry) (count : ℕ) → is_start r (Answers r e o) count ≡ begins_epoch e
    start_is r e o count = elim (cases_Bool (begins_epoch e)) [
      | inl starts ↦ rw (eq-eqb r r refl) (rw starts refl)
      | inr stays ↦ rw (eq-eqb r r refl) (rw stays refl)
    ]

-- a fault
pub fault_does : (old new : MachineView) (r : ℕ) (cause : Cause) → r ≡ old.kernel.running → new.tasks ≡ old.tasks → new.kernel ≡ stopped old.kernel true →
    (entry : Option DataEntry) (output : Option OutputEntry) (checkpoint : Option ℕ) (switch : Option Switch) (fault : ℕ) (idle : Bool) →
    entry ≡ None → output ≡ None → checkpoint ≡ None → switch ≡ switched new r (Some Fault) → fault ≡ cause_of (Faulted r cause) →
    idle ≡ (new.kernel.running == nobody) →
    Does old (moment_in old r (Faults cause))
    (record { entry = entry; output = output; checkpoint = checkpoint; switch = switch; fault = fault; idle = idle }) new
unfolding moved told_in
fault_does old new r cause runs tasks kernel entry output checkpoint switch fault idle e o k s f i =
    let m : Moment = moment_in old r (Faults cause) in
    let machine : new ≡ moved old m = machine_same new (moved old m) tasks kernel in
    record {
      machine = machine;
      tells = same_told _ _ _ _ _ _ _ _ _ _ _ _ e o k
          (s ∙ ap (λ (x : MachineView). switched x r (Some Fault)) machine ∙ ap (λ (q : ℕ). switched (moved old m) q (Some Fault)) runs) f
          (i ∙ ap (λ (x : KernelState). x.running == nobody) kernel);
    }

-- an arrival
pub arrival_does : (old new : MachineView) (mask : ℕ) (ports : List ℕ) → new.tasks ≡ old.tasks → new.kernel ≡ rescheduled (arrived old.kernel mask ports) →
    (entry : Option DataEntry) (output : Option OutputEntry) (checkpoint : Option ℕ) (switch : Option Switch) (fault : ℕ) (idle : Bool) →
    entry ≡ None → output ≡ None → checkpoint ≡ None → switch ≡ switched new old.kernel.running None → fault ≡ 0 →
    idle ≡ (new.kernel.running == nobody) →
    Does old (arrival (whole_in old) mask ports)
    (record { entry = entry; output = output; checkpoint = checkpoint; switch = switch; fault = fault; idle = idle }) new
unfolding moved told_in
arrival_does old new mask ports tasks kernel entry output checkpoint switch fault idle e o k s f i =
    let m : Moment = arrival (whole_in old) mask ports in
    let machine : new ≡ moved old m = machine_same new (moved old m) tasks kernel in
    record {
      machine = machine;
      tells = same_told _ _ _ _ _ _ _ _ _ _ _ _ e o k
          (s ∙ ap (λ (x : MachineView). switched x old.kernel.running None) machine) f
          (i ∙ ap (λ (x : KernelState). x.running == nobody) kernel);
    }

-- several instructions of the running task
abbrev with_task : MachineView → ℕ → TaskView → MachineView
with_task old r t = record old { tasks = slice_set old.tasks r t }

run_does : (n : ℕ) (image : ImageView) (old : MachineView) (r : ℕ) (text : Text) (before after : TaskView) → Turns image old r text →
    slice_get old.tasks r ≡ Some before → slice_set old.tasks r before ≡ old.tasks → RunsOn text n before after → DoesQuietly image n old (with_task old r after)
unfolding RunsOn DoesQuietly
run_does zero image old r text before after t there put same =
    ap (λ (x : TaskView). with_task old r x) same ∙ ap (λ (ts : List TaskView). record old { tasks = ts }) put
run_does (suc n) image old r text before after t there put (between, (so_far, did)) =
    let middle : MachineView = with_task old r between in
    let new : MachineView = with_task old r after in
    let long : length (slice_set old.tasks r between) ≡ length old.tasks = length-set old.tasks r between in
    let steps : StepsTask text r middle Ran new = record {
      before = between;
      after = after;
      there = slice_get_set_same old.tasks r between t.within;
      did = did;
      rest = ap (λ (ts : List TaskView). record old { tasks = ts }) (sym (set-set old.tasks r between after));
    } in
    let here : Turns image middle r text = record { runs = t.runs; somebody = t.somebody; within = omega (arith, t.within, long); text_is = t.text_is } in
    (middle, (run_does n image old r text before between t there put so_far, ran_does image middle new r text here steps))

pub runs_does : (image : ImageView) (old new : MachineView) (r n : ℕ) (text : Text) → Turns image old r text → RunsTask text r old n new →
    DoesQuietly image n old new
runs_does image old new r n text t s =
    let put : slice_set old.tasks r s.before ≡ old.tasks = put_back old.tasks r s.before s.there in
    subst (λ (x : MachineView). DoesQuietly image n old x) (sym s.rest) (run_does n image old r text s.before s.after t s.there put s.ran)

-- what the machine did is the run's next moment
pub does_at : (image : ImageView) (h : History) (old new : MachineView) (r : ℕ) (told : Told) → Runs image h old r → Does old (next_in image old) told new →
    IsAt image new (next_moment image h ∷ h)
does_at image h old new r told runs d =
    subst (λ (x : MachineView). IsAt image x (next_moment image h ∷ h))
    (ap (λ (m : Moment). moved old m) (sym (next_is image old h r runs)) ∙ sym d.machine) (moved_at image old h r runs)

pub does_told : (image : ImageView) (h : History) (old new : MachineView) (r : ℕ) (told : Told) → Runs image h old r → IsMachine new →
    Does old (next_in image old) told new → told ≡ told_of image (next_moment image h) h
does_told image h old new r told runs sound d =
    let at : IsAt image new (next_moment image h ∷ h) = does_at image h old new r told runs d in
    let next : IsTaskOrNobody (length image.loads) new.kernel.running =
    subst (λ (n : ℕ). IsTaskOrNobody n new.kernel.running) at.tasks (runner_within new sound) in
    d.tells ∙ ap (λ (m : Moment). told_in old m) (next_is image old h r runs) ∙
    told_at image old h (next_moment image h) runs.at (moved_at image old h r runs)
    (inr (subst (λ (q : ℕ). q < length image.loads) (sym (runs_at image h old r runs)) runs.there))
    (subst (λ (q : ℕ). IsTaskOrNobody (length image.loads) q) (ap (λ (k : KernelState). k.running) at.kernel) next)
    (checked_at image old h r runs)

-- and what it did at an arrival is that moment
pub comes_at : (image : ImageView) (h : History) (old new : MachineView) (mask : ℕ) (ports : List ℕ) (told : Told) → IsAt image old h →
    Does old (arrival (whole_in old) mask ports) told new → IsAt image new (arrival (now image h) mask ports ∷ h)
comes_at image h old new mask ports told at d =
    subst (λ (x : MachineView). IsAt image x (arrival (now image h) mask ports ∷ h))
    (ap (λ w. moved old (arrival w mask ports)) (sym (whole_is image old h at)) ∙ sym d.machine) (come_at image old h mask ports at)

pub comes_told : (image : ImageView) (h : History) (old new : MachineView) (mask : ℕ) (ports : List ℕ) (told : Told) → IsAt image old h → IsMachine old → IsMachine new →
    Does old (arrival (whole_in old) mask ports) told new → told ≡ told_of image (arrival (now image h) mask ports) h
comes_told image h old new mask ports told at old_sound sound d =
    let m : Moment = arrival (now image h) mask ports in
    let later : IsAt image new (m ∷ h) = comes_at image h old new mask ports told at d in
    let before : IsTaskOrNobody (length image.loads) old.kernel.running =
    subst (λ (n : ℕ). IsTaskOrNobody n old.kernel.running) at.tasks (runner_within old old_sound) in
    let after : IsTaskOrNobody (length image.loads) new.kernel.running =
    subst (λ (n : ℕ). IsTaskOrNobody n new.kernel.running) later.tasks (runner_within new sound) in
    d.tells ∙ ap (λ w. told_in old (arrival w mask ports)) (whole_is image old h at) ∙
    told_at image old h m at (come_at image old h mask ports at)
    (subst (λ (q : ℕ). IsTaskOrNobody (length image.loads) q) (ap (λ (k : KernelState). k.running) at.kernel) before)
    (subst (λ (q : ℕ). IsTaskOrNobody (length image.loads) q) (ap (λ (k : KernelState). k.running) later.kernel) after) refl

-- the same task runs after an instruction that adds to no list
none_left : (test : Bool) (a b : ℕ) (x : Switch) → (if test || not (a == b) then Some x else None) ≡ None → b ≡ a
none_left true a b x e = absurd cc
none_left false a b x e = elim (cases_Bool (a == b)) [
  | inl same ↦ sym (eqb-true a b same)
  | inr other ↦ absurd (let made : Some x ≡ None = rw other at e in cc)
]

quiet_runner : (old new : MachineView) (m : Moment) → Does old m told_going_on new → new.kernel.running ≡ old.kernel.running
unfolding moved told_in
quiet_runner old new m d =
    ap (λ (x : MachineView). x.kernel.running) d.machine ∙
    none_left (is_some m.leaves) old.kernel.running (moved old m).kernel.running _ (ap (λ (t : Told). t.switch) (sym d.tells))

pub quietly_runs : (n : ℕ) (image : ImageView) (old new : MachineView) → DoesQuietly image n old new → new.kernel.running ≡ old.kernel.running
unfolding DoesQuietly
quietly_runs zero image old new same = ap (λ (x : MachineView). x.kernel.running) same
quietly_runs (suc n) image old new (between, (so_far, d)) =
    quiet_runner between new (next_in image between) d ∙ quietly_runs n image old between so_far

-- so many quiet turns: where they have led
pub record HasAdvanced (image : ImageView) (h : History) (n : ℕ) (new : MachineView) : Type 0 where
  pub at : IsAt image new (turns image n h)
  pub quiet : (i : ℕ) → i < n → IsQuiet image (turns image i h)

quiet_told : (image : ImageView) (h : History) (old new : MachineView) (r : ℕ) → Runs image h old r → Does old (next_in image old) told_going_on new →
    IsQuiet image h
quiet_told image h old new r runs d =
    let at : IsAt image new (next_moment image h ∷ h) = does_at image h old new r told_going_on runs d in
    let there : r < length image.loads = runs.there in
    let next : (next_moment image h).after.kernel.running ≡ r =
    sym (ap (λ (k : KernelState). k.running) at.kernel) ∙ quiet_runner old new (next_in image old) d ∙ runs.runs in
    sym (told_at image old h (next_moment image h) runs.at (moved_at image old h r runs)
    (inr (subst (λ (q : ℕ). q < length image.loads) (sym (runs_at image h old r runs)) there))
    (inr (subst (λ (q : ℕ). q < length image.loads) (sym next) there)) (checked_at image old h r runs)) ∙
    ap (λ (m : Moment). told_in old m) (sym (next_is image old h r runs)) ∙ sym d.tells

pub has_advanced : (n : ℕ) (image : ImageView) (h : History) (old new : MachineView) (r : ℕ) → Runs image h old r → old.kernel.running ≢ nobody →
    DoesQuietly image n old new → HasAdvanced image h n new
unfolding DoesQuietly
has_advanced zero image h old new r runs somebody same = record {
  at = subst (λ (x : History). IsAt image new x) (sym (turns_none image h)) (subst (λ (m : MachineView). IsAt image m h) (sym same) runs.at);
  quiet = λ i below. absurd (omega arith);
}
has_advanced (suc n) image h old new r runs somebody (between, (so_far, d)) =
    let first : HasAdvanced image h n between = has_advanced n image h old between r runs somebody so_far in
    let still : between.kernel.running ≡ old.kernel.running = quietly_runs n image old between so_far in
    let here : Runs image (turns image n h) between r = record { at = first.at; runs = still ∙ runs.runs; there = runs.there } in
    let goes : running_at image (turns image n h) ≢ nobody = λ e. somebody (sym still ∙ ap (λ (k : KernelState). k.running) first.at.kernel ∙ e) in
    record {
      at = subst (λ (x : History). IsAt image new x) (sym (turned_on image (turns image n h) goes) ∙ turns_next image n h)
          (does_at image (turns image n h) between new r told_going_on here d);
      quiet = λ i below. elim (cases_eq i n) [
        | inl last ↦ subst (λ (k : ℕ). IsQuiet image (turns image k h)) (sym last) (quiet_told image (turns image n h) between new r here d)
        | inr other ↦ first.quiet i (omega arith)
      ];
    }
