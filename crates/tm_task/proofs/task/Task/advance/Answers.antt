use Rattle.std.proofs.Common.{◌∙◌, sym, subst, ap, List, ℕ}
use Rattle.tm_task.specs.Parts.{body_at}
use Rattle.tm_task.specs.RunsOn.{HasStopped}
use Rattle.tm_task.specs.Standing.{task_view}
use Rattle.tm_task.proofs.Running.{runs_none, runs_between}
use Rattle.tm_task.proofs.task.Task.advance.Goals as goal

pub returns-then-self-clause-ran : goal.returns-then-self-clause-ran
returns-then-self-clause-ran c = runs_none c.args.code.now c.args.self.now

pub returns-clause-ran : goal.returns-clause-ran
returns-clause-ran c =
    runs_between _ _ _ _ _ _
    (ap (λ (regs : List ℕ). task_view c.self.inside.entry (body_at c.self.inside.body.pc regs c.self.inside.body.words) c.self.inside.epoch c.self.inside.count) c.of.ensures.value ∙ c.self.view_is)
    (ap (λ (regs : List ℕ). task_view c.self.inside.entry (body_at c.replace_with-end.result.pc regs c.replace_with-end.new.dest) c.self.inside.epoch c.replace_with-end.result.count) (sym c.put_into.ensures))
    (c.replace_with-end.ensures.1.0 c.self.inside.entry c.self.inside.epoch)

pub returns-clause-stopped : goal.returns-clause-stopped
returns-clause-stopped c = λ less.
    subst (λ (regs : List ℕ). HasStopped c.args.code.now (task_view c.self.inside.entry (body_at c.replace_with-end.result.pc regs c.replace_with-end.new.dest) c.self.inside.epoch c.replace_with-end.result.count))
    (sym c.put_into.ensures) (c.replace_with-end.ensures.1.1.0 less c.self.inside.entry c.self.inside.epoch)
