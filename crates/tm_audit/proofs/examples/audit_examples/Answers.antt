use Rattle.std.proofs.Common.{refl}
use Rattle.std.specs.Fmt.{digits}
use Rattle.tm_audit.specs.Text.{line_text, lines_text, audit_text}
use Rattle.tm_audit.proofs.examples.audit_examples.Goals as goal

pub returns-clause-quiet : goal.returns-clause-quiet
unfolding audit_text lines_text line_text digits
returns-clause-quiet c = refl

pub returns-clause-two : goal.returns-clause-two
unfolding audit_text lines_text line_text digits
returns-clause-two c = refl
