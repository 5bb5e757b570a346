use Rattle.std.proofs.Common.{◌≡◌, ℕ, refl, ap, sym, ◌∙◌, subst, List, length, None}
use Rattle.tm_kernel.specs.State.{KernelState, IsKernel}
use Rattle.tm_kernel.specs.Schedule.{rescheduled, arrived}
use Rattle.tm_system.specs.declared.machine.Told.{Told}
use Rattle.tm_system.specs.History.{History}
use Rattle.tm_system.specs.Run.{arrival}
use Rattle.tm_system.specs.Machine.{MachineView, IsAt, IsMachine}
use Rattle.tm_system.specs.Moving.{whole_in, Does}
use Rattle.tm_system.specs.Parts.{IsTaskOrNobody, switched}
use Rattle.tm_system.proofs.Turning.{runner_within, sound_after, arrival_spec, arrives_goes, arrival_told_goes}
use Rattle.tm_system.proofs.Doing.{arrival_does, comes_at, comes_told}
use Rattle.tm_system.proofs.machine.Machine.arrive.Goals as goal
use Rattle.tm_system.proofs.machine.Machine.arrive.Goals.{After-nothing-2}

-- what the kernel is after its two steps
done : (k first second : KernelState) (mask : ℕ) (ports : List ℕ) → first ≡ arrived k mask ports → second ≡ rescheduled first →
    second ≡ rescheduled (arrived k mask ports)
done k first second mask ports e f = f ∙ ap (λ (k : KernelState). rescheduled k) e

spec_done : (k second : KernelState) (mask : ℕ) (ports : List ℕ) → second ≡ rescheduled (arrived k mask ports) → second.spec ≡ k.spec
spec_done k second mask ports e = ap (λ (k : KernelState). k.spec) e ∙ arrival_spec k mask ports

sound_done : (inside after : MachineView) (mask : ℕ) (ports : List ℕ) → IsMachine inside → after.tasks ≡ inside.tasks →
    after.kernel ≡ rescheduled (arrived inside.kernel mask ports) → IsKernel after.kernel → IsMachine after
sound_done inside after mask ports sound tasks e kernel =
    sound_after inside after sound (ap length tasks) (spec_done inside.kernel after.kernel mask ports e) kernel

-- the machine inside the loan
abbrev with_kernel : MachineView → KernelState → MachineView
with_kernel m kernel = record { tasks = m.tasks; kernel = kernel }

abbrev inside : After-nothing-2 → MachineView
inside c = record { tasks = c.self.inside.tasks.items; kernel = c.self.inside.kernel }

pub invariant_of-self : goal.invariant_of-self
invariant_of-self c =
    let inside : MachineView = record { tasks = c.self.inside.tasks.items; kernel = c.self.inside.kernel } in
    sound_done inside (with_kernel inside c.reschedule.new.self) c.args.mask c.args.ports c.self.invariant refl
    (done c.self.inside.kernel c.arrive.new.self c.reschedule.new.self c.args.mask c.args.ports c.arrive.ensures.arrived c.reschedule.ensures.rescheduled)
    c.reschedule.ensures.sound

pub switch-requires : goal.switch-requires
switch-requires c =
    let inside : MachineView = record { tasks = c.self.inside.tasks.items; kernel = c.self.inside.kernel } in
    subst (λ (r : ℕ). IsTaskOrNobody (length c.self.inside.tasks.items) r) (sym c.running-from.ensures.task)
    (runner_within inside c.self.invariant)

-- the machine did the arrival
does : (c : After-nothing-2) → Does c.args.self.now (arrival (whole_in c.args.self.now) c.args.mask c.args.ports)
    (record c.nothing-2.result { switch = c.switch.result }) (with_kernel (inside c) c.reschedule.new.self)
does c =
    subst (λ (m : MachineView). Does m (arrival (whole_in m) c.args.mask c.args.ports) (record c.nothing-2.result { switch = c.switch.result })
    (with_kernel (inside c) c.reschedule.new.self)) c.self.view_is
    (arrival_does (inside c) (with_kernel (inside c) c.reschedule.new.self) c.args.mask c.args.ports refl
    (done c.self.inside.kernel c.arrive.new.self c.reschedule.new.self c.args.mask c.args.ports c.arrive.ensures.arrived c.reschedule.ensures.rescheduled)
    _ _ _ _ _ _
    (ap (λ (t : Told). t.entry) c.nothing-2.ensures)
    (ap (λ (t : Told). t.output) c.nothing-2.ensures)
    (ap (λ (t : Told). t.checkpoint) c.nothing-2.ensures)
    (c.switch.ensures ∙ ap (λ (r : ℕ). switched (with_kernel (inside c) c.reschedule.new.self) r None) c.running-from.ensures.task)
    (ap (λ (t : Told). t.fault) c.nothing-2.ensures)
    (ap (λ (t : Told). t.idle) c.nothing-2.ensures))

goes : (c : After-nothing-2) → c.args.self.now.kernel.ended ≡ 0
goes c = sym (ap (λ (m : MachineView). m.kernel.ended) c.self.view_is) ∙ sym c.ended.ensures ∙ c.if-ended-ne0.false

pub returns-clause-done : goal.returns-clause-done
returns-clause-done c = λ ended. does c

pub returns-clause-at : goal.returns-clause-at
returns-clause-at c = λ image h at.
    subst (λ (g : History). IsAt image (with_kernel (inside c) c.reschedule.new.self) g)
    (sym (arrives_goes image h c.args.mask c.args.ports (sym (ap (λ (k : KernelState). k.ended) at.kernel) ∙ goes c)))
    (comes_at image h c.args.self.now (with_kernel (inside c) c.reschedule.new.self) c.args.mask c.args.ports _ at (does c))

pub returns-clause-told : goal.returns-clause-told
returns-clause-told c = λ image h at.
    comes_told image h c.args.self.now (with_kernel (inside c) c.reschedule.new.self) c.args.mask c.args.ports _ at
    (subst IsMachine c.self.view_is c.self.invariant)
    (sound_done (inside c) (with_kernel (inside c) c.reschedule.new.self) c.args.mask c.args.ports c.self.invariant refl
    (done c.self.inside.kernel c.arrive.new.self c.reschedule.new.self c.args.mask c.args.ports c.arrive.ensures.arrived c.reschedule.ensures.rescheduled)
    c.reschedule.ensures.sound) (does c) ∙
    sym (arrival_told_goes image h c.args.mask c.args.ports (sym (ap (λ (k : KernelState). k.ended) at.kernel) ∙ goes c))

pub returns-clause-spec : goal.returns-clause-spec
returns-clause-spec c =
    spec_done c.self.inside.kernel c.reschedule.new.self c.args.mask c.args.ports
    (done c.self.inside.kernel c.arrive.new.self c.reschedule.new.self c.args.mask c.args.ports c.arrive.ensures.arrived c.reschedule.ensures.rescheduled) ∙
    ap (λ (m : MachineView). m.kernel.spec) c.self.view_is

pub returns-clause-sound : goal.returns-clause-sound
returns-clause-sound c =
    let inside : MachineView = record { tasks = c.self.inside.tasks.items; kernel = c.self.inside.kernel } in
    sound_done inside (with_kernel inside c.reschedule.new.self) c.args.mask c.args.ports c.self.invariant refl
    (done c.self.inside.kernel c.arrive.new.self c.reschedule.new.self c.args.mask c.args.ports c.arrive.ensures.arrived c.reschedule.ensures.rescheduled)
    c.reschedule.ensures.sound
