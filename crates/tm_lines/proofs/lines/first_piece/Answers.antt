use Rattle.std.proofs.Common.{refl, sym, ◌∙◌}
use Rattle.tm_lines.proofs.Cuts.{first_line, only_line}
use Rattle.tm_lines.proofs.lines.first_piece.Goals as goal

pub returns-in-Some-clause-parts : goal.returns-in-Some-clause-parts
returns-in-Some-clause-parts c = first_line _ _ _ refl (sym c.line_end.ensures ∙ c.in-Some.is)

pub returns-in-None-clause-parts : goal.returns-in-None-clause-parts
returns-in-None-clause-parts c =
    only_line _ _ (sym c.is_empty.ensures ∙ c.if-is_empty.false) refl (sym c.line_end.ensures ∙ c.in-None.is)
