use Rattle.std.proofs.Common.{refl}
use Rattle.std.specs.Fmt.{digits}
use Rattle.tm_spelling.specs.Lines.{hex8}
use Rattle.tm_plant.specs.Tape.{hex4, slice_line, tape_text}
use Rattle.tm_plant.proofs.examples.tape_examples.Goals as goal

pub returns-clause-none : goal.returns-clause-none
unfolding tape_text
returns-clause-none c = refl

pub returns-clause-one : goal.returns-clause-one
unfolding tape_text slice_line hex4 hex8 digits
returns-clause-one c = refl
