use Rattle.std.proofs.Common.{refl}
use Rattle.std.specs.Fmt.{digits}
use Rattle.tm_spelling.specs.Lines.{data_line, hex8, regs_line}
use Rattle.tm_spelling.proofs.spells_values.Goals as goal

pub returns-clause-word : goal.returns-clause-word
unfolding hex8
returns-clause-word c = refl

pub returns-clause-marker : goal.returns-clause-marker
unfolding digits hex8
returns-clause-marker c = refl

pub returns-clause-count : goal.returns-clause-count
unfolding digits hex8
returns-clause-count c = refl

pub returns-clause-regs : goal.returns-clause-regs
unfolding digits regs_line hex8
returns-clause-regs c = refl

pub returns-clause-bare : goal.returns-clause-bare
unfolding digits regs_line
returns-clause-bare c = refl

pub returns-clause-word_line : goal.returns-clause-word_line
unfolding data_line hex8
returns-clause-word_line c = refl
