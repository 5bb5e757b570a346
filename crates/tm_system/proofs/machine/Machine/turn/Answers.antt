use Rattle.std.proofs.Common.{ap, sym, ◌∙◌, subst}
use Rattle.tm_system.specs.History.{History}
use Rattle.tm_system.specs.Machine.{MachineView, IsAt, IsMachine}
use Rattle.tm_system.proofs.Doing.{does_at, does_told}
use Rattle.tm_system.proofs.Playing.{turned_on}
use Rattle.tm_system.proofs.Stepping.{running_there, running_in, running_loaded, runs_here, somebody_at}
use Rattle.tm_system.proofs.machine.Machine.turn.Goals as goal

pub text-requires : goal.text-requires
text-requires c =
    let sound : IsMachine c.args.self.now = subst IsMachine c.self.view_is c.self.invariant in
    running_loaded c.args.image.now c.args.self.now c.running-task.result sound c.requires.runs
    (c.running-task.ensures.task ∙ ap (λ (m : MachineView). m.kernel.running) c.self.view_is)
    c.requires.image c.tasks-tasks.ensures.sound

pub act-requires-clause-runs : goal.act-requires-clause-runs
act-requires-clause-runs c =
    running_in c.args.self.now c.running-task.result (subst IsMachine c.self.view_is c.self.invariant) c.requires.runs
    (c.running-task.ensures.task ∙ ap (λ (m : MachineView). m.kernel.running) c.self.view_is)

pub act-requires-clause-there : goal.act-requires-clause-there
act-requires-clause-there c =
    running_there c.args.self.now c.running-task.result (subst IsMachine c.self.view_is c.self.invariant) c.requires.runs
    (c.running-task.ensures.task ∙ ap (λ (m : MachineView). m.kernel.running) c.self.view_is)

pub returns-clause-done : goal.returns-clause-done
returns-clause-done c = c.act.ensures.done c.args.image.now c.text.ensures.value

pub returns-clause-at : goal.returns-clause-at
returns-clause-at c = λ h at.
    let sound : IsMachine c.args.self.now = subst IsMachine c.self.view_is c.self.invariant in
    subst (λ (g : History). IsAt c.args.image.now c.act.new.self g)
    (sym (turned_on c.args.image.now h (somebody_at c.args.image.now c.args.self.now h at c.requires.runs)))
    (does_at c.args.image.now h c.args.self.now c.act.new.self _ c.act.result (runs_here c.args.image.now c.args.self.now h sound at c.requires.runs)
    (c.act.ensures.done c.args.image.now c.text.ensures.value))

pub returns-clause-told : goal.returns-clause-told
returns-clause-told c = λ h at.
    let sound : IsMachine c.args.self.now = subst IsMachine c.self.view_is c.self.invariant in
    does_told c.args.image.now h c.args.self.now c.act.new.self _ c.act.result (runs_here c.args.image.now c.args.self.now h sound at c.requires.runs)
    c.act.ensures.sound (c.act.ensures.done c.args.image.now c.text.ensures.value)
