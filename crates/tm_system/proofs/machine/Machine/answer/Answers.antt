use Rattle.std.proofs.Common.{◌≡◌, ℕ, List, ◌<◌, Bool, true, false, refl, ap, sym, ◌∙◌, subst, arith, length, get_or, Some, slice_get, if◌then◌else◌, None}
use Rattle.std.proofs.lemmas.Option.{slice_get_read}
use Rattle.std.specs.Bool.{then_some}
use Rattle.tm_task.specs.Exec.{Calls}
use Rattle.tm_task.specs.Standing.{begins_epoch}
use Rattle.tm_kernel.specs.declared.kernel.Need.{Need}
use Rattle.tm_kernel.specs.State.{KernelState, IsRunning}
use Rattle.tm_kernel.specs.Service.{answer}
use Rattle.tm_kernel.specs.Schedule.{rescheduled}
use Rattle.tm_kernel.proofs.Answering.{call_same_rest}
use Rattle.tm_kernel.proofs.Rescheduling.{rescheduling_same_rest}
use Rattle.tm_system.specs.declared.machine.Told.{Told}
use Rattle.tm_system.specs.Run.{left_by}
use Rattle.tm_system.specs.Machine.{MachineView}
use Rattle.tm_system.specs.Moving.{moment_in, Does}
use Rattle.tm_system.proofs.Turning.{sound_after}
use Rattle.tm_system.proofs.Doing.{call_does}
use Rattle.tm_system.proofs.Calling.{IsCalled, called_spec}
use Rattle.tm_system.proofs.machine.Machine.answer.Goals as goal
use Rattle.tm_system.proofs.machine.Machine.answer.Goals.{After-nothing}

then_some_is : (b : Bool) (x : ℕ) → then_some b x ≡ (if b then Some x else None)
then_some_is true x = refl
then_some_is false x = refl

-- a call and a rescheduling leave the specification
called_spec_is : (k after : KernelState) (task service : ℕ) (args : List ℕ) → after ≡ (answer k task service args).kernel →
    after.spec ≡ k.spec
called_spec_is k after task service args e =
    ap (λ (k : KernelState). k.spec) e ∙ (call_same_rest k task service args).spec

rescheduled_spec_is : (k after : KernelState) → after ≡ rescheduled k → after.spec ≡ k.spec
rescheduled_spec_is k after e = ap (λ (k : KernelState). k.spec) e ∙ (rescheduling_same_rest k).spec

-- the machine before, and after
abbrev old : After-nothing → MachineView
old c = record { tasks = c.self.inside.tasks.items; kernel = c.self.inside.kernel }

abbrev new : After-nothing → MachineView
new c = record { tasks = c.self-2.inside.tasks.items; kernel = c.reschedule.new.self }

running : (c : After-nothing) → IsRunning c.self.inside.kernel c.args.task
running c = subst (λ (m : MachineView). IsRunning m.kernel c.args.task) (sym c.self.view_is) c.requires.runs

within : (c : After-nothing) → c.args.task < length c.self.inside.tasks.items
within c =
    let there = (running c).there in
    let states = c.self.invariant.kernel.states in
    let tasks = c.self.invariant.tasks in
    omega (arith, there, states, tasks)

there : (c : After-nothing) → slice_get c.self.inside.tasks.items c.args.task ≡ Some c.index.result.now
there c = slice_get_read c.self.inside.tasks.items (length c.self.inside.tasks.items) c.args.task c.index.result.now refl (within c)
    (subst (λ (i : ℕ). c.index.result.now ≡ get_or c.self.inside.tasks.items i c.index.result.now) c.from.ensures c.index.ensures)

called : (c : After-nothing) → IsCalled (old c) c.reply-begins.new.self (new c) c.args.task c.args.service c.index.result.now
    c.args-args.result c.call-answer.new.self c.call-answer.result.entry
called c = record {
  there = there c;
  args_is = c.args-args.ensures;
  kernel_is = c.call-answer.ensures.kernel;
  entry_is = c.call-answer.ensures.entry;
  replied = c.reply-begins.ensures.replied;
  rescheduled_is = c.reschedule.ensures.rescheduled ∙ ap (λ (m : MachineView). rescheduled m.kernel) c.self-2.view_is;
  tasks_is = ap (λ (m : MachineView). m.tasks) c.self-2.view_is;
}

-- what is told
abbrev told : After-nothing → Told
told c = record {
  entry = Some c.call-answer.result.entry;
  output = c.call-answer.result.output;
  checkpoint = c.then_some.result;
  switch = c.switch.result;
  fault = c.nothing.result.fault;
  idle = c.nothing.result.idle;
}

pub returns-clause-done : goal.returns-clause-done
returns-clause-done c =
    subst (λ (m : MachineView). Does m (moment_in m c.args.task (Calls c.args.service)) (told c) (new c)) c.self.view_is
    (call_does (old c) c.reply-begins.new.self (new c) c.args.task c.args.service c.index.result.now
    c.args-args.result c.call-answer.new.self c.call-answer.result.entry (sym (running c).runs) (called c)
    c.call-answer.result.output c.then_some.result c.left_by.result c.switch.result c.nothing.result.fault c.nothing.result.idle
    c.call-answer.ensures.output
    (c.then_some.ensures ∙ ap (λ (b : Bool). then_some b c.args.task) c.reply-begins.ensures.begins ∙ then_some_is (begins_epoch c.call-answer.result.entry) c.args.task)
    (c.left_by.ensures ∙ ap (λ (n : Need). left_by n) c.call-answer.ensures.need)
    c.switch.ensures
    (ap (λ (t : Told). t.fault) c.nothing.ensures)
    (ap (λ (t : Told). t.idle) c.nothing.ensures))

pub returns-clause-spec : goal.returns-clause-spec
returns-clause-spec c =
    called_spec (old c) c.reply-begins.new.self (new c) c.args.task c.args.service c.index.result.now
    c.args-args.result c.call-answer.new.self c.call-answer.result.entry (called c) ∙
    ap (λ (m : MachineView). m.kernel.spec) c.self.view_is

pub invariant_of-self : goal.invariant_of-self
invariant_of-self c =
    let inside : MachineView = record { tasks = c.self.inside.tasks.items; kernel = c.self.inside.kernel } in
    let after : MachineView = record { tasks = c.self.inside.tasks.items; kernel = c.call-answer.new.self } in
    sound_after inside after c.self.invariant refl
    (called_spec_is inside.kernel after.kernel c.args.task c.args.service c.args-args.result c.call-answer.ensures.kernel)
    c.call-answer.ensures.sound

pub invariant_of-self-2 : goal.invariant_of-self-2
invariant_of-self-2 c =
    let inside : MachineView = record { tasks = c.self-2.inside.tasks.items; kernel = c.self-2.inside.kernel } in
    let after : MachineView = record { tasks = c.self-2.inside.tasks.items; kernel = c.reschedule.new.self } in
    sound_after inside after c.self-2.invariant refl
    (rescheduled_spec_is inside.kernel after.kernel c.reschedule.ensures.rescheduled)
    c.reschedule.ensures.sound

pub returns-clause-sound : goal.returns-clause-sound
returns-clause-sound c =
    let inside : MachineView = record { tasks = c.self-2.inside.tasks.items; kernel = c.self-2.inside.kernel } in
    let after : MachineView = record { tasks = c.self-2.inside.tasks.items; kernel = c.reschedule.new.self } in
    sound_after inside after c.self-2.invariant refl
    (rescheduled_spec_is inside.kernel after.kernel c.reschedule.ensures.rescheduled)
    c.reschedule.ensures.sound
