use Rattle.tm_task.specs.Parts.{body_at}
use Rattle.tm_task.proofs.Kept.{does_exec}
use Rattle.tm_task.proofs.execute.execute.Goals as goal

pub returns : goal.returns
returns c =
    let inside = rw c.words-text.ensures at c.if-index-text.false in
    let does = rw (c.at.ensures.kept, c.words-text.ensures) at c.perform.ensures in
    does_exec c.args.code.now (body_at c.args.pc c.args.regs.now c.args.words.now) _ c.perform.result inside c.at.ensures.told does
