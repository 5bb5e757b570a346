use Rattle.std.proofs.Common.{◌∙◌, ◌-◌, ◌^◌, ap}
use Rattle.std.specs.Prelude.{codes, option_map}
use Rattle.clap.specs.Words.{App, takes}
use Rattle.tm_words.specs.declared.command.Command.TheVariants.{Make}
use Rattle.tm_words.specs.Numbers.{number_in}
use Rattle.tm_words.specs.Parsers.{make_words}
use Rattle.tm_words.proofs.Parsing.{told, there, same_text, make_taken, make_number}
use Rattle.tm_words.proofs.reading.read_make.Goals as goal

pub matches_of-requires-clause-taken : goal.matches_of-requires-clause-taken
matches_of-requires-clause-taken c = ap (λ (a : App). takes a (make_words c.args.number.now)) c.in_ok-make_parser.ensures ∙ make_taken c.args.number.now

pub text_in-requires : goal.text_in-requires
text_in-requires c = there (told (make_words c.args.number.now) (codes "number") c.in_ok-make_parser.ensures (c.in_ok-matches.ensures (codes "number")) (make_number c.args.number.now))

pub returns-in-Some : goal.returns-in-Some
returns-in-Some c =
    let text = same_text c.text_in.ensures (told (make_words c.args.number.now) (codes "number") c.in_ok-make_parser.ensures (c.in_ok-matches.ensures (codes "number")) (make_number c.args.number.now)) in
    ap (option_map Make) (c.in-Some.ensures ∙ ap (number_in 0 (2 ^ 32 - 1)) text)

pub returns : goal.returns
returns c =
    let text = same_text c.text_in.ensures (told (make_words c.args.number.now) (codes "number") c.in_ok-make_parser.ensures (c.in_ok-matches.ensures (codes "number")) (make_number c.args.number.now)) in
    ap (option_map Make) (c.in-None.ensures ∙ ap (number_in 0 (2 ^ 32 - 1)) text)
