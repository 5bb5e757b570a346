use Rattle.std.proofs.Common.{refl}
use Rattle.std.specs.Fmt.{digits}
use Rattle.tm_spelling.specs.Lines.{at_line, cause_line, data_line, end_line, hex8, out_line, regs_line, start_line, state_line, switch_line, task_line}
use Rattle.tm_spelling.proofs.spells_blocks.Goals as goal

pub returns-clause-start : goal.returns-clause-start
unfolding digits start_line task_line regs_line hex8
returns-clause-start c = refl

pub returns-clause-idle : goal.returns-clause-idle
unfolding digits switch_line
returns-clause-idle c = refl

pub returns-clause-preempted : goal.returns-clause-preempted
unfolding digits switch_line at_line regs_line hex8
returns-clause-preempted c = refl

pub returns-clause-fault : goal.returns-clause-fault
unfolding digits switch_line at_line cause_line regs_line hex8
returns-clause-fault c = refl

pub returns-clause-end : goal.returns-clause-end
unfolding digits end_line state_line regs_line data_line out_line hex8
returns-clause-end c = refl
