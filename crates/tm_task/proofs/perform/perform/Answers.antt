-- Each of these arms does the same to every body that has these parts.
use Rattle.std.proofs.Common.{rules}
use Rattle.tm_task.proofs.perform.perform.Goals as goal

pub returns-in-Jal : goal.returns-in-Jal
returns-in-Jal c = let done = c.jump.ensures c.args.words.now in search rules

pub returns-in-Jalr : goal.returns-in-Jalr
returns-in-Jalr c = let done = c.jump-in-Jalr.ensures c.args.words.now in search rules

pub returns-in-Beq : goal.returns-in-Beq
returns-in-Beq c = let done = c.branch-pc.ensures c.args.regs.now c.args.words.now in search rules

pub returns-in-Bne : goal.returns-in-Bne
returns-in-Bne c = let done = c.branch-pc-in-Bne.ensures c.args.regs.now c.args.words.now in search rules

pub returns-in-Blt : goal.returns-in-Blt
returns-in-Blt c = let done = c.branch-pc-in-Blt.ensures c.args.regs.now c.args.words.now in search rules

pub returns-in-Bge : goal.returns-in-Bge
returns-in-Bge c = let done = c.branch-pc-in-Bge.ensures c.args.regs.now c.args.words.now in search rules

pub returns-in-Bltu : goal.returns-in-Bltu
returns-in-Bltu c = let done = c.branch-pc-in-Bltu.ensures c.args.regs.now c.args.words.now in search rules

pub returns-in-Bgeu : goal.returns-in-Bgeu
returns-in-Bgeu c = let done = c.branch-pc-in-Bgeu.ensures c.args.regs.now c.args.words.now in search rules

pub returns-in-Sb : goal.returns-in-Sb
returns-in-Sb c = let done = c.store.ensures c.args.regs.now in search rules

pub returns-in-Sh : goal.returns-in-Sh
returns-in-Sh c = let done = c.store-in-Sh.ensures c.args.regs.now in search rules

pub returns-in-Sw : goal.returns-in-Sw
returns-in-Sw c = let done = c.store-in-Sw.ensures c.args.regs.now in search rules
