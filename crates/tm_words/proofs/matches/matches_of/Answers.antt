use Rattle.std.proofs.Common.{◌∙◌, ap}
use Rattle.clap.specs.Words.{found_of, first_of}
use Rattle.clap.proofs.WalkLemmas.{first_value-rows}
use Rattle.tm_words.proofs.matches.matches_of.Goals as goal

pub returns-in-Ok : goal.returns-in-Ok
returns-in-Ok c = λ name. first_value-rows (found_of c.in-Ok.matches) name ∙ ap (first_of name) (c.in-Ok.ensures.matches c.requires.simple).0
