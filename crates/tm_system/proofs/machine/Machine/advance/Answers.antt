use Rattle.std.proofs.Common.{ap, sym, ◌∙◌, subst}
use Rattle.tm_system.specs.Machine.{MachineView, IsMachine}
use Rattle.tm_system.specs.Moving.{DoesQuietly}
use Rattle.tm_system.proofs.Doing.{Turns, runs_does, has_advanced}
use Rattle.tm_system.proofs.Stepping.{running_there, runs_here}
use Rattle.tm_system.proofs.machine.Machine.advance.Goals as goal
use Rattle.tm_system.proofs.machine.Machine.advance.Goals.{After-run_on}

does : (c : After-run_on) → DoesQuietly c.args.image.now c.run_on.result c.args.self.now c.run_on.new.self
does c =
    let runs = c.running-task.ensures.task ∙ ap (λ (m : MachineView). m.kernel.running) c.self.view_is in
    let t : Turns c.args.image.now c.args.self.now c.running-task.result c.text.result.now = record {
      runs = runs;
      somebody = λ e. c.requires.runs (sym runs ∙ e);
      within = running_there c.args.self.now c.running-task.result (subst IsMachine c.self.view_is c.self.invariant) c.requires.runs runs;
      text_is = c.text.ensures.value;
    } in
    runs_does c.args.image.now c.args.self.now c.run_on.new.self c.running-task.result c.run_on.result c.text.result.now t c.run_on.ensures.ran

pub returns-clause-done : goal.returns-clause-done
returns-clause-done c = does c

pub returns-clause-at : goal.returns-clause-at
returns-clause-at c = λ h at.
    (has_advanced c.run_on.result c.args.image.now h c.args.self.now c.run_on.new.self _
    (runs_here c.args.image.now c.args.self.now h (subst IsMachine c.self.view_is c.self.invariant) at c.requires.runs) c.requires.runs (does c)).at

pub returns-clause-quiet : goal.returns-clause-quiet
returns-clause-quiet c = λ h at.
    (has_advanced c.run_on.result c.args.image.now h c.args.self.now c.run_on.new.self _
    (runs_here c.args.image.now c.args.self.now h (subst IsMachine c.self.view_is c.self.invariant) at c.requires.runs) c.requires.runs (does c)).quiet
