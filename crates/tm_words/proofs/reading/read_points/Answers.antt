use Rattle.std.proofs.Common.{◌∙◌, ap, ap₂, Some}
use Rattle.std.specs.Prelude.{codes}
use Rattle.clap.specs.Words.{App, takes}
use Rattle.tm_words.specs.declared.command.Command.TheVariants.{Points}
use Rattle.tm_words.specs.Parsers.{points_words}
use Rattle.tm_words.proofs.Parsing.{told, there, same_text, points_taken, points_image, points_dump}
use Rattle.tm_words.proofs.reading.read_points.Goals as goal

pub matches_of-requires-clause-taken : goal.matches_of-requires-clause-taken
matches_of-requires-clause-taken c = ap (λ (a : App). takes a (points_words c.args.image.now c.args.dump.now)) c.in_ok-points_parser.ensures ∙ points_taken c.args.image.now c.args.dump.now

pub name_in-requires : goal.name_in-requires
name_in-requires c = there (told (points_words c.args.image.now c.args.dump.now) (codes "image") c.in_ok-points_parser.ensures (c.in_ok-matches.ensures (codes "image")) (points_image c.args.image.now c.args.dump.now))

pub name_in-requires-2 : goal.name_in-requires-2
name_in-requires-2 c = there (told (points_words c.args.image.now c.args.dump.now) (codes "dump") c.in_ok-points_parser.ensures (c.in_ok-matches.ensures (codes "dump")) (points_dump c.args.image.now c.args.dump.now))

pub returns : goal.returns
returns c =
    ap₂ (λ image dump. Some (Points image dump))
    (same_text c.in_ok-image.ensures (told (points_words c.args.image.now c.args.dump.now) (codes "image") c.in_ok-points_parser.ensures (c.in_ok-matches.ensures (codes "image")) (points_image c.args.image.now c.args.dump.now)))
    (same_text c.in_ok-dump.ensures (told (points_words c.args.image.now c.args.dump.now) (codes "dump") c.in_ok-points_parser.ensures (c.in_ok-matches.ensures (codes "dump")) (points_dump c.args.image.now c.args.dump.now)))
