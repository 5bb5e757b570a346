-- A step of the running task, as a turn of the machine.
use Rattle.std.proofs.Common.{◌≡◌, ◌≢◌, ℕ, ◌<◌, ◌^◌, refl, ap, sym, ◌∙◌, subst, arith, inl, inr, List, length, Option, Some, IfSome, slice_get, slice_set}
use Rattle.std.proofs.lemmas.Option.{get_or_from_slice_get}
use Rattle.std.proofs.lemmas.List.{set-get_or}
use Rattle.tm_rv.specs.Code.{Text}
use Rattle.tm_task.specs.declared.outcome.Cause.{Cause}
use Rattle.tm_task.specs.declared.outcome.Stepped.TheVariants.{Call, Fault}
use Rattle.tm_task.specs.Standing.{TaskView}
use Rattle.tm_kernel.specs.State.{KernelState, IsRunning, nobody}
use Rattle.tm_image.specs.Image.{ImageView, IsImage}
use Rattle.tm_system.specs.History.{History}
use Rattle.tm_system.specs.Run.{running_at}
use Rattle.tm_system.specs.Machine.{MachineView, IsAt, IsMachine}
use Rattle.tm_system.specs.Parts.{StepsTask, CanAnswer}
use Rattle.tm_system.proofs.Turning.{Runs, runner_within}

-- the running task is one of the machine's, and of the image's
pub running_there : (machine : MachineView) (r : ℕ) → IsMachine machine → machine.kernel.running ≢ nobody → r ≡ machine.kernel.running →
    r < length machine.tasks
running_there machine r sound somebody is = elim (runner_within machine sound) [
  | inl e ↦ absurd (somebody e)
  | inr within ↦ omega (arith, within, is)
]

pub running_in : (machine : MachineView) (r : ℕ) → IsMachine machine → machine.kernel.running ≢ nobody → r ≡ machine.kernel.running →
    IsRunning machine.kernel r
running_in machine r sound somebody is = record {
  runs = sym is;
  there = omega (arith, running_there machine r sound somebody is, sound.tasks, sound.kernel.states);
}

pub running_loaded : (image : ImageView) (machine : MachineView) (r : ℕ) → IsMachine machine → machine.kernel.running ≢ nobody →
    r ≡ machine.kernel.running → machine.kernel.spec ≡ image.spec → IsImage image → r < length image.loads
running_loaded image machine r sound somebody is spec image_sound =
    omega (
      arith,
      running_there machine r sound somebody is,
      sound.tasks,
      image_sound.loads,
      ap (λ (s : _). length s.tasks) spec,
    )

-- a task that is put where it stands
pub put_back : (xs : List TaskView) (i : ℕ) (x : TaskView) → slice_get xs i ≡ Some x → slice_set xs i x ≡ xs
put_back xs i x there =
    ap (λ (t : TaskView). slice_set xs i t) (sym (get_or_from_slice_get xs i x x there)) ∙ set-get_or xs i x

-- a step at a call or a fault leaves the machine
pub put_stays : (old new : MachineView) (r : ℕ) (before after : TaskView) → slice_get old.tasks r ≡ Some before → after ≡ before →
    new ≡ record old { tasks = slice_set old.tasks r after } → new ≡ old
put_stays old new r before after there same rest =
    rest ∙ ap (λ (t : TaskView). record old { tasks = slice_set old.tasks r t }) same ∙
    ap (λ (ts : List TaskView). record old { tasks = ts }) (put_back old.tasks r before there)

pub call_stays : (old new : MachineView) (r service : ℕ) (text : Text) → StepsTask text r old (Call service) new → new ≡ old
call_stays old new r service text s = put_stays old new r s.before s.after s.there s.did.same s.rest

pub fault_stays : (old new : MachineView) (r : ℕ) (cause : Cause) (text : Text) → StepsTask text r old (Fault cause) new → new ≡ old
fault_stays old new r cause text s = put_stays old new r s.before s.after s.there s.did.same s.rest

-- the caller can be answered
pub caller_ready : (old new : MachineView) (r service : ℕ) (text : Text) → StepsTask text r old (Call service) new →
    IfSome (slice_get old.tasks r) (λ t. t.standing.epoch < 2 ^ 53) → IfSome (slice_get new.tasks r) CanAnswer
caller_ready old new r service text s small =
    let low : s.before.standing.epoch < 2 ^ 53 =
    subst (λ (o : Option TaskView). IfSome o (λ t. t.standing.epoch < 2 ^ 53)) s.there small in
    let ready : CanAnswer s.before = record { inside = s.did.inside; epoch = low } in
    subst (λ (m : MachineView). IfSome (slice_get m.tasks r) CanAnswer) (sym (call_stays old new r service text s))
    (subst (λ (o : Option TaskView). IfSome o CanAnswer) (sym s.there) ready)

-- the running task of a machine that is where a history is
pub runs_here : (image : ImageView) (machine : MachineView) (h : History) → IsMachine machine → IsAt image machine h →
    machine.kernel.running ≢ nobody → Runs image h machine machine.kernel.running
runs_here image machine h sound at somebody =
    record { at = at; runs = refl; there = omega (arith, running_there machine machine.kernel.running sound somebody refl, at.tasks) }

pub somebody_at : (image : ImageView) (machine : MachineView) (h : History) → IsAt image machine h → machine.kernel.running ≢ nobody →
    running_at image h ≢ nobody
somebody_at image machine h at somebody e = somebody (ap (λ (k : KernelState). k.running) at.kernel ∙ e)
