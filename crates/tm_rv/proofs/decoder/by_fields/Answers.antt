-- These opcodes have no row that looks at funct7.
use Rattle.tm_rv.proofs.decoder.by_fields.Goals as goal

pub returns-in-99 : goal.returns-in-99
returns-in-99 c = rw c.in-99.is (c.branch-funct3.ensures c.args.funct7 c.args.word)

pub returns-in-3 : goal.returns-in-3
returns-in-3 c = rw c.in-3.is (c.load.ensures c.args.funct7 c.args.word)

pub returns-in-35 : goal.returns-in-35
returns-in-35 c = rw c.in-35.is (c.store.ensures c.args.funct7 c.args.word)

pub returns-in-19 : goal.returns-in-19
returns-in-19 c = rw c.in-19.is (c.with_immediate.ensures c.args.word)

pub returns-in-51 : goal.returns-in-51
returns-in-51 c = rw c.in-51.is (c.with_register.ensures c.args.word)
