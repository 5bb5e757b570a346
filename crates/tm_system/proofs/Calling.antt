-- The parts of an answered call, as the machine does them, are the run's moment.
use Rattle.std.proofs.Common.{◌≡◌, ℕ, Bool, refl, ap, sym, ◌∙◌, List, ◌∷◌, length, length-set, Option, Some, None, ◌==◌, if◌then◌else◌, slice_get, slice_set}
use Rattle.std.proofs.lemmas.Option.{same_Some}
use Rattle.tm_marker.specs.declared.entries.DataEntry.{DataEntry}
use Rattle.tm_marker.specs.declared.entries.OutputEntry.{OutputEntry}
use Rattle.tm_marker.specs.declared.entries.Switch.{Switch}
use Rattle.tm_marker.specs.declared.entries.Kind.{Kind}
use Rattle.tm_task.specs.Exec.{exec, Calls}
use Rattle.tm_task.specs.Standing.{TaskView, answered, begins_epoch, args_of}
use Rattle.tm_kernel.specs.State.{KernelState, IsKernel, nobody}
use Rattle.tm_kernel.specs.Service.{Answered, answer}
use Rattle.tm_kernel.specs.Schedule.{rescheduled}
use Rattle.tm_image.specs.Image.{ImageView, text_of}
use Rattle.tm_system.specs.declared.machine.Told.{Told}
use Rattle.tm_system.specs.History.{History}
use Rattle.tm_system.specs.Run.{body_at, next_moment, left_by}
use Rattle.tm_system.specs.Machine.{MachineView, IsAt, IsMachine, told_of}
use Rattle.tm_system.specs.Parts.{RepliesTo, switched}
use Rattle.tm_system.proofs.Turning.{call_spec}

-- the kernel answered, then the task had its reply, then the kernel rescheduled
pub record IsCalled (old middle new : MachineView) (r service : ℕ) (before : TaskView) (args : List ℕ) (kernel : KernelState) (entry : DataEntry) : Type 0 where
  pub there : slice_get old.tasks r ≡ Some before
  pub args_is : args ≡ args_of before.standing.body
  pub kernel_is : kernel ≡ (answer old.kernel r service args).kernel
  pub entry_is : entry ≡ (answer old.kernel r service args).entry
  pub replied : RepliesTo r entry (record { tasks = old.tasks; kernel = kernel }) middle
  pub rescheduled_is : new.kernel ≡ rescheduled middle.kernel
  pub tasks_is : new.tasks ≡ middle.tasks

-- what the service answered
abbrev pub answer_is : MachineView → ℕ → ℕ → TaskView → Answered
answer_is old r service before = answer old.kernel r service (args_of before.standing.body)

-- with the arguments of the task
pub answer_same : (old : MachineView) (r service : ℕ) (before : TaskView) (args : List ℕ) → args ≡ args_of before.standing.body →
    answer old.kernel r service args ≡ answer_is old r service before
answer_same old r service before args e = ap (λ (x : List ℕ). answer old.kernel r service x) e

pub called_kernel : (old middle new : MachineView) (r service : ℕ) (before : TaskView) (args : List ℕ) (kernel : KernelState) (entry : DataEntry) →
    IsCalled old middle new r service before args kernel entry →
    new.kernel ≡ rescheduled (answer_is old r service before).kernel
called_kernel old middle new r service before args kernel entry c =
    c.rescheduled_is ∙ ap (λ (m : MachineView). rescheduled m.kernel) c.replied.rest ∙
    ap (λ (k : KernelState). rescheduled k) c.kernel_is ∙
    ap (λ (a : Answered). rescheduled a.kernel) (answer_same old r service before args c.args_is)

pub called_entry : (old middle new : MachineView) (r service : ℕ) (before : TaskView) (args : List ℕ) (kernel : KernelState) (entry : DataEntry) →
    IsCalled old middle new r service before args kernel entry → entry ≡ (answer_is old r service before).entry
called_entry old middle new r service before args kernel entry c =
    c.entry_is ∙ ap (λ (a : Answered). a.entry) (answer_same old r service before args c.args_is)

pub called_tasks : (old middle new : MachineView) (r service : ℕ) (before : TaskView) (args : List ℕ) (kernel : KernelState) (entry : DataEntry) →
    IsCalled old middle new r service before args kernel entry →
    new.tasks ≡ slice_set old.tasks r (record before { standing = answered before.entry before.standing (answer_is old r service before).entry })
called_tasks old middle new r service before args kernel entry c =
    let same : c.replied.before ≡ before = same_Some _ _ (sym c.replied.there ∙ c.there) in
    c.tasks_is ∙ ap (λ (m : MachineView). m.tasks) c.replied.rest ∙
    ap (λ (t : TaskView). slice_set old.tasks r (record t { standing = answered t.entry t.standing entry })) same ∙
    ap (λ (e : DataEntry). slice_set old.tasks r (record before { standing = answered before.entry before.standing e }))
    (called_entry old middle new r service before args kernel entry c)

pub called_spec : (old middle new : MachineView) (r service : ℕ) (before : TaskView) (args : List ℕ) (kernel : KernelState) (entry : DataEntry) →
    IsCalled old middle new r service before args kernel entry → new.kernel.spec ≡ old.kernel.spec
called_spec old middle new r service before args kernel entry c =
    ap (λ (k : KernelState). k.spec) (called_kernel old middle new r service before args kernel entry c) ∙
    call_spec old.kernel r service (args_of before.standing.body)
