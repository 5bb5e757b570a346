use Rattle.std.proofs.Common.{◌≡◌, subst, List, ℕ, arith}
use Rattle.std.proofs.lemmas.Grind.{common_steps}
use Rattle.tm_rv.specs.Code.{Text}
use Rattle.tm_task.specs.Parts.{body_at}
use Rattle.tm_task.specs.Standing.{task_view}
use Rattle.tm_task.specs.RunsOn.{HasStopped}
use Rattle.tm_task.proofs.run.run.Goals as goal

-- the data words that are given back are those that the run left
words_back : (c : goal.After-from) → c.turns-done.new.words ≡ c.from.result
words_back c = grind (arith, common_steps)

pub returns-clause-stopped : goal.returns-clause-stopped
returns-clause-stopped c = λ less entry epoch.
    subst (λ (words : List ℕ). HasStopped c.args.start.code.now (task_view entry (body_at c.turns-done.new.pc c.turns-done.new.regs words) epoch c.turns-done.new.count))
    (words_back c)
    (subst (λ (text : Text). HasStopped text (task_view entry (body_at c.turns-done.new.pc c.turns-done.new.regs c.turns-done.new.words) epoch c.turns-done.new.count))
    c.slices.ensures (c.turns-done.ensures.stopped less entry epoch))
