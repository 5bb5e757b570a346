-- Each moment of a script's run follows the moments before it, and is sound.
use Rattle.std.proofs.Common.{arith, ◌≡◌, ◌≢◌, ℕ, zero, suc, ◌<◌, ◌⊎◌, Bool, true, ◌==◌, List, [], ◌∷◌, length, refl, ap, sym, ◌∙◌, inl, inr, length-set, Some, slice_get, slice_set, unwrap_or}
use Rattle.std.proofs.lemmas.Bool.{cases_Bool, eqb-true, eqb-false}
use Rattle.std.proofs.lemmas.List.{length-map}
use Rattle.std.proofs.lemmas.Option.{slice_get_within}
use Rattle.tm_marker.specs.declared.body.Body.{Body}
use Rattle.tm_marker.specs.declared.entries.Slice.{Slice}
use Rattle.tm_marker.specs.declared.entries.Kind.{Kind}
use Rattle.tm_marker.specs.declared.entries.Kind.TheVariants.{Preempted, Waits, Ends, Fault, Shutdown, Idle}
use Rattle.tm_task.specs.declared.outcome.Cause.{Cause}
use Rattle.tm_task.specs.Exec.{Exec, Faults, Calls, Goes, exec}
use Rattle.tm_task.specs.Standing.{args_of}
use Rattle.tm_kernel.specs.declared.kernel.Need.{Need}
use Rattle.tm_kernel.specs.declared.kernel.Need.TheVariants.{Goes as Continues, Leaves}
use Rattle.tm_kernel.specs.State.{KernelState, IsKernel, IsRunning, nobody}
use Rattle.tm_kernel.specs.Service.{Answered, answer}
use Rattle.tm_kernel.specs.Schedule.{rescheduled, arrived}
use Rattle.tm_kernel.proofs.Keeping.{slice_get_set_same, booted_keeps, arrived_keeps, stopped_keeps}
use Rattle.tm_kernel.proofs.Rescheduling.{rescheduling_keeps, runs_a_task, rescheduling_same_rest, arrival_latches, arrival_goes_on}
use Rattle.tm_kernel.specs.Laws.{LeavesBy}
use Rattle.tm_kernel.specs.Nesting.{IsIdleAtEnd, ReschedulingSettles}
use Rattle.tm_kernel.proofs.Answering.{call_keeps, call_same_rest, call_names_service, call_goes_on, call_leaves}
use Rattle.tm_kernel.proofs.NestedCalls.{boot_is_nested, call_keeps_nested}
use Rattle.tm_kernel.proofs.NestedStates.{arrival_keeps_nested, stop_keeps_nested, rescheduling_keeps_nested}
use Rattle.tm_kernel.proofs.NestedSettling.{every_rescheduling_settles}
use Rattle.tm_image.specs.Image.{ImageView, IsImage, entry_of, text_of}
use Rattle.tm_system.specs.History.{Moment, History}
use Rattle.tm_system.specs.Run.{now, running_at, body_at, no_body, arrival, left_by, moment_by, arrives, turned, turns, sliced, played}
use Rattle.tm_system.specs.Follows.{CanRunNext, ended_by, Follows, IsRun, Boots, GoesOn}
use Rattle.tm_system.proofs.Outputs.{output_tells}
use Rattle.tm_system.specs.Laws.{IsSoundAt, ScriptsAreRuns, ScriptsAreSound}

-- a run whose last moment is sound
pub record IsGoodRun (image : ImageView) (h : History) : Type 0 where
  pub run : IsRun image h
  pub sound : IsSoundAt image h

-- a moment that follows, and is sound
pub record IsGoodMoment (image : ImageView) (h : History) (m : Moment) : Type 0 where
  pub follows : Follows image h m
  pub sound : IsSoundAt image (m ∷ h)

pub good_more : (image : ImageView) (h : History) (m : Moment) → IsGoodRun image h → IsGoodMoment image h m → IsGoodRun image (m ∷ h)
good_more image h m r g = record { run = GoesOn r.run g.follows; sound = g.sound }

pub boot_sound : (image : ImageView) → IsImage image → IsSoundAt image []
boot_sound image i = record {
  spec = refl;
  kernel = booted_keeps image.spec i.spec;
  bodies = length-map image.loads _;
  idle = λ ended. absurd (ended refl);
  nested = boot_is_nested image.spec i.spec;
  settled = λ somebody. absurd (somebody refl);
  nobody_waits = λ more _ _. absurd (omega (arith, more));
}

-- nobody runs, or a task of the image
in_image : (image : ImageView) (k : KernelState) → IsImage image → k.spec ≡ image.spec →
    (k.running ≡ nobody) ⊎ (k.running < length k.spec.tasks) → (k.running ≡ nobody) ⊎ (k.running < length image.loads)
in_image image k i spec runs =
    elim runs [
      | inl e ↦ inl e
      | inr lt ↦ inr (let same : length image.loads ≡ length k.spec.tasks = i.loads ∙ ap (λ s. length s.tasks) (sym spec) in rw same lt)
    ]

-- the kernel after a rescheduling
rescheduled_sound : (k : KernelState) → IsKernel k → (image : ImageView) → k.spec ≡ image.spec → (rescheduled k).spec ≡ image.spec
rescheduled_sound k _ image spec = (rescheduling_same_rest k).spec ∙ spec

runs_in_image : (image : ImageView) (k : KernelState) → IsImage image → IsKernel k → k.spec ≡ image.spec →
    ((rescheduled k).running ≡ nobody) ⊎ ((rescheduled k).running < length image.loads)
runs_in_image image k i sound spec =
    let same : length image.loads ≡ length k.spec.tasks = i.loads ∙ ap (λ s. length s.tasks) (sym spec) in
    rw same (runs_a_task k sound)

arrival_good : (image : ImageView) (h : History) (mask : ℕ) (ports : List ℕ) → IsImage image → IsSoundAt image h →
    (now image h).kernel.ended ≡ 0 → IsGoodMoment image h (arrival (now image h) mask ports)
arrival_good image h mask ports i s goes =
    let k : KernelState = (now image h).kernel in
    let a : KernelState = arrived k mask ports in
    let sound : IsKernel a = arrived_keeps k mask ports s.kernel in
    let rest = arrival_latches k mask ports in
    let spec : a.spec ≡ image.spec = rest.spec ∙ s.spec in
    let ended : (rescheduled a).ended ≡ 0 = (rescheduling_same_rest a).ended ∙ rest.ended ∙ goes in
    let settles : ReschedulingSettles a = every_rescheduling_settles a sound (λ over. absurd (over (rest.ended ∙ goes))) in
    record {
      follows = record {
        goes = goes;
        did = record { bodies = refl; leaves = refl; keeps = arrival_goes_on k mask ports s.kernel; ended = ended };
        runs = runs_in_image image a i sound spec;
      };
      sound = record {
        spec = (rescheduling_same_rest a).spec ∙ spec;
        kernel = rescheduling_keeps a sound;
        bodies = s.bodies;
        idle = λ stopped. absurd (stopped ended);
        nested = rescheduling_keeps_nested a sound (arrival_keeps_nested k mask ports s.kernel s.nested);
        settled = settles.settled;
        nobody_waits = λ _ _ idle. settles.nobody_waits (rest.ended ∙ goes) idle;
      };
    }

-- where a task runs, it is one of the image's, and the run has not ended
pub running_in : (image : ImageView) (h : History) → IsImage image → IsSoundAt image h → running_at image h ≢ nobody →
    running_at image h < length image.loads
running_in image h i s somebody =
    elim s.kernel.running [
      | inl e ↦ absurd (somebody e)
      | inr g ↦
          let within = slice_get_within _ _ _ g in
          let same : length (now image h).kernel.states ≡ length image.loads =
          s.kernel.states ∙ ap (λ s. length s.tasks) s.spec ∙ sym i.loads in
          rw (← same) within
    ]

goes_still : (image : ImageView) (h : History) → IsSoundAt image h → running_at image h ≢ nobody → (now image h).kernel.ended ≡ 0
goes_still image h s somebody =
    elim (cases_Bool ((now image h).kernel.ended == 0)) [
      | inl e ↦ eqb-true _ _ e
      | inr e ↦ absurd (somebody (s.idle (eqb-false _ _ e)))
    ]

-- the running task goes on
step_good : (image : ImageView) (h : History) (next : Body) (back : Bool) → IsImage image → IsSoundAt image h →
    running_at image h ≢ nobody →
    exec (text_of image (running_at image h)) (body_at image h (running_at image h)) ≡ Goes next back →
    IsGoodMoment image h (moment_by (entry_of image (running_at image h)) (now image h) (running_at image h) (body_at image h (running_at image h)) (Goes next back))
step_good image h next back i s somebody e =
    let t : ℕ = running_at image h in
    let there : t < length image.loads = running_in image h i s somebody in
    let within : t < length (now image h).bodies = rw s.bodies there in
    let put : unwrap_or (slice_get (slice_set (now image h).bodies t next) t) no_body ≡ next =
    ap (λ o. unwrap_or o no_body) (slice_get_set_same (now image h).bodies t next within) in
    record {
      follows = record {
        goes = goes_still image h s somebody;
        did = record {
          turn = record { runs = refl; there = there };
          executes = e ∙ ap (λ b. Goes b back) (sym put);
          bodies = ap (λ b. slice_set (now image h).bodies t b) (sym put);
          leaves = refl;
          kernel = refl;
        };
        runs = inr there;
      };
      sound = record {
        spec = s.spec;
        kernel = s.kernel;
        bodies = length-set _ t next ∙ s.bodies;
        idle = s.idle;
        nested = s.nested;
        settled = s.settled;
        nobody_waits = λ _ _ idle. absurd (somebody idle);
      };
    }

-- who may run after a caller left
left_next : (k : KernelState) (task : ℕ) (new : KernelState) (kind : Kind) → LeavesBy kind k task new →
    CanRunNext (Some kind) task (rescheduled new).running
left_next k task new Waits l = l.1
left_next k task new Ends l = tt
left_next k task new Shutdown l = l.1
left_next k task new Preempted l = absurd l
left_next k task new Fault l = absurd l
left_next k task new Idle l = absurd l

-- who may run after a call
can_run_next : (k : KernelState) (task service : ℕ) (args : List ℕ) → length args ≡ 6 → IsKernel k → IsRunning k task →
    (need : Need) → (answer k task service args).need ≡ need →
    CanRunNext (left_by need) task (rescheduled (answer k task service args).kernel).running
can_run_next k task service args six sound runs Continues e = (call_goes_on k task service args six sound runs e).somebody
can_run_next k task service args six sound runs (Leaves kind) e =
    left_next k task (answer k task service args).kernel kind (call_leaves k task service args kind six sound runs e).1

-- how the run stands after a caller left
left_ended : (k : KernelState) (task : ℕ) (new : KernelState) (kind : Kind) → LeavesBy kind k task new → k.ended ≡ 0 →
    new.ended ≡ ended_by (Some kind)
left_ended k task new Waits l e = l.0 ∙ e
left_ended k task new Ends l e = l ∙ e
left_ended k task new Shutdown l e = l.0
left_ended k task new Preempted l e = absurd l
left_ended k task new Fault l e = absurd l
left_ended k task new Idle l e = absurd l

-- how the run stands after a call: only a shutdown ends it
ended_by_call : (k : KernelState) (task service : ℕ) (args : List ℕ) → length args ≡ 6 → IsKernel k → IsRunning k task →
    k.ended ≡ 0 → (need : Need) → (answer k task service args).need ≡ need →
    (answer k task service args).kernel.ended ≡ ended_by (left_by need)
ended_by_call k task service args six sound runs goes Continues e = (call_goes_on k task service args six sound runs e).ended ∙ goes
ended_by_call k task service args six sound runs goes (Leaves kind) e =
    left_ended k task (answer k task service args).kernel kind (call_leaves k task service args kind six sound runs e).1 goes

-- a call that ends the run leaves nobody running
idle_after_call : (k : KernelState) (task service : ℕ) (args : List ℕ) → length args ≡ 6 → IsKernel k → IsRunning k task →
    k.ended ≡ 0 → (need : Need) → (answer k task service args).need ≡ need → IsIdleAtEnd (answer k task service args).kernel
idle_after_call k task service args six sound runs goes Continues e =
    λ over. absurd (over ((call_goes_on k task service args six sound runs e).ended ∙ goes))
idle_after_call k task service args six sound runs goes (Leaves kind) e = λ _. (call_leaves k task service args kind six sound runs e).0

-- the running task's call is answered
call_good : (image : ImageView) (h : History) (service : ℕ) → IsImage image → IsSoundAt image h →
    running_at image h ≢ nobody →
    exec (text_of image (running_at image h)) (body_at image h (running_at image h)) ≡ Calls service →
    IsGoodMoment image h (moment_by (entry_of image (running_at image h)) (now image h) (running_at image h) (body_at image h (running_at image h)) (Calls service))
call_good image h service i s somebody e =
    let t : ℕ = running_at image h in
    let k : KernelState = (now image h).kernel in
    let b : Body = body_at image h t in
    let a : Answered = answer k t service (args_of b) in
    let there : t < length image.loads = running_in image h i s somebody in
    let runs : IsRunning k t = record {
      runs = refl;
      there = (let same : length image.loads ≡ length k.states = i.loads ∙ ap (λ s. length s.tasks) (sym s.spec) ∙ sym s.kernel.states in rw (← same) there);
    } in
    let sound : IsKernel a.kernel = call_keeps k t service (args_of b) refl s.kernel runs in
    let rest = call_same_rest k t service (args_of b) in
    let spec : a.kernel.spec ≡ image.spec = rest.spec ∙ s.spec in
    let goes : k.ended ≡ 0 = goes_still image h s somebody in
    let settles : ReschedulingSettles a.kernel =
    every_rescheduling_settles a.kernel sound (idle_after_call k t service (args_of b) refl s.kernel runs goes a.need refl) in
    record {
      follows = record {
        goes = goes;
        did = record {
          turn = record { runs = refl; there = there };
          calls = e ∙ ap Calls (sym (call_names_service k t service (args_of b)));
          bodies = refl;
          makes = output_tells k t service b;
          next = can_run_next k t service (args_of b) refl s.kernel runs a.need refl;
          ended = (rescheduling_same_rest a.kernel).ended ∙ ended_by_call k t service (args_of b) refl s.kernel runs goes a.need refl;
        };
        runs = runs_in_image image a.kernel i sound spec;
      };
      sound = record {
        spec = (rescheduling_same_rest a.kernel).spec ∙ spec;
        kernel = rescheduling_keeps a.kernel sound;
        bodies = length-set _ t _ ∙ s.bodies;
        idle = settles.idle;
        nested = rescheduling_keeps_nested a.kernel sound
            (call_keeps_nested k t service (args_of b) s.kernel s.nested s.settled runs);
        settled = settles.settled;
        nobody_waits = λ _ goes_on idle.
            settles.nobody_waits (sym (rescheduling_same_rest a.kernel).ended ∙ goes_on) idle;
      };
    }

-- the running task faults
fault_good : (image : ImageView) (h : History) (cause : Cause) → IsImage image → IsSoundAt image h →
    running_at image h ≢ nobody →
    exec (text_of image (running_at image h)) (body_at image h (running_at image h)) ≡ Faults cause →
    IsGoodMoment image h (moment_by (entry_of image (running_at image h)) (now image h) (running_at image h) (body_at image h (running_at image h)) (Faults cause))
fault_good image h cause i s somebody e = record {
  follows = record {
    goes = goes_still image h s somebody;
    did = record {
      turn = record { runs = refl; there = running_in image h i s somebody };
      faults = e;
      bodies = refl;
      leaves = refl;
      nobody_runs = refl;
      ended = refl;
    };
    runs = inl refl;
  };
  sound = record {
    spec = s.spec;
    kernel = stopped_keeps (now image h).kernel true s.kernel;
    bodies = s.bodies;
    idle = λ _. refl;
    nested = stop_keeps_nested (now image h).kernel true s.kernel s.nested;
    settled = λ somebody. absurd (somebody refl);
    nobody_waits = λ _ goes_on _. absurd (omega (arith, goes_on));
  };
}

-- the running task's instruction, whatever it does
moment_good : (image : ImageView) (h : History) → IsImage image → IsSoundAt image h → running_at image h ≢ nobody →
    (did : Exec) → exec (text_of image (running_at image h)) (body_at image h (running_at image h)) ≡ did →
    IsGoodMoment image h (moment_by (entry_of image (running_at image h)) (now image h) (running_at image h) (body_at image h (running_at image h)) did)
moment_good image h i s somebody (Faults cause) e = fault_good image h cause i s somebody e
moment_good image h i s somebody (Calls service) e = call_good image h service i s somebody e
moment_good image h i s somebody (Goes next back) e = step_good image h next back i s somebody e

-- one arrival, one instruction, many, a slice, a script: each keeps a good run good
pub arrives_good : (image : ImageView) (h : History) (mask : ℕ) (ports : List ℕ) → IsImage image → IsGoodRun image h →
    IsGoodRun image (arrives image mask ports h)
arrives_good image h mask ports i r =
    elim (cases_Bool ((now image h).kernel.ended == 0)) [
      | inl e ↦ rw e (good_more image h _ r (arrival_good image h mask ports i r.sound (eqb-true _ _ e)))
      | inr e ↦ rw e r
    ]

pub turned_good : (image : ImageView) (h : History) → IsImage image → IsGoodRun image h → IsGoodRun image (turned image h)
turned_good image h i r =
    elim (cases_Bool (running_at image h == nobody)) [
      | inl e ↦ rw e r
      | inr e ↦ rw e (good_more image h _ r (moment_good image h i r.sound (eqb-false _ _ e) _ refl))
    ]

pub turns_good : (image : ImageView) (n : ℕ) (h : History) → IsImage image → IsGoodRun image h → IsGoodRun image (turns image n h)
unfolding turns
turns_good image zero h i r = r
turns_good image (suc n) h i r = turned_good image (turns image n h) i (turns_good image n h i r)

pub played_good : (image : ImageView) (script : List Slice) (h : History) → IsImage image → IsGoodRun image h →
    IsGoodRun image (played image h script)
played_good image [] h i r = r
played_good image (s ∷ ss) h i r =
    played_good image ss (sliced image h s) i
    (turns_good image s.length (arrives image s.mask s.ports h) i (arrives_good image h s.mask s.ports i r))

pub boot_good : (image : ImageView) → IsImage image → IsGoodRun image []
boot_good image i = record { run = Boots; sound = boot_sound image i }

pub scripts_are_runs : ScriptsAreRuns
scripts_are_runs image script i = (played_good image script [] i (boot_good image i)).run

pub scripts_are_sound : ScriptsAreSound
scripts_are_sound image script i = (played_good image script [] i (boot_good image i)).sound
