use Rattle.std.proofs.Common.{ap, sym, ◌∙◌, true}
use Rattle.tm_kernel.specs.State.{stopped}
use Rattle.tm_system.specs.declared.machine.Told.{Told}
use Rattle.tm_system.specs.Machine.{MachineView}
use Rattle.tm_system.proofs.Doing.{fault_does}
use Rattle.tm_system.proofs.machine.Machine.fail.Goals as goal

pub returns-clause-done : goal.returns-clause-done
returns-clause-done c =
    fault_does c.args.self.now (record { tasks = c.self.inside.tasks.items; kernel = c.stop.new.self }) c.args.task c.args.cause (sym c.requires.runs.runs)
    (ap (λ (m : MachineView). m.tasks) c.self.view_is)
    (c.stop.ensures.stopped ∙ ap (λ (m : MachineView). stopped m.kernel true) c.self.view_is)
    _ _ _ _ _ _
    (ap (λ (t : Told). t.entry) c.nothing.ensures)
    (ap (λ (t : Told). t.output) c.nothing.ensures)
    (ap (λ (t : Told). t.checkpoint) c.nothing.ensures)
    c.switch.ensures
    c.number.ensures
    (ap (λ (t : Told). t.idle) c.nothing.ensures)
