use Rattle.std.proofs.Common.{◌∙◌, map}
use Rattle.std.specs.Prelude.{codes}
use Rattle.tm_words.proofs.Driving.{tells, is_there, text_is, asked_same}
use Rattle.tm_words.proofs.reading.read_live_words.Goals as goal

pub name_in-requires-2 : goal.name_in-requires-2
name_in-requires-2 c = is_there (tells (map (λ word. word.now) c.args.words.now) (codes "plant") c.in_ok-live_parser.ensures (c.in_ok-matches.ensures (codes "plant"))) c.requires.plant

pub name_in-requires-3 : goal.name_in-requires-3
name_in-requires-3 c = is_there (tells (map (λ word. word.now) c.args.words.now) (codes "dump") c.in_ok-live_parser.ensures (c.in_ok-matches.ensures (codes "dump"))) c.requires.dump

pub returns : goal.returns
returns c =
    c.live_of.ensures ∙ asked_same
    (text_is (c.in_ok-image.ensures ∙ tells (map (λ word. word.now) c.args.words.now) (codes "image") c.in_ok-live_parser.ensures (c.in_ok-matches.ensures (codes "image"))))
    (text_is (c.in_ok-plant.ensures ∙ tells (map (λ word. word.now) c.args.words.now) (codes "plant") c.in_ok-live_parser.ensures (c.in_ok-matches.ensures (codes "plant"))))
    (text_is (c.in_ok-dump.ensures ∙ tells (map (λ word. word.now) c.args.words.now) (codes "dump") c.in_ok-live_parser.ensures (c.in_ok-matches.ensures (codes "dump"))))
    (c.text_in-slices.ensures ∙ tells (map (λ word. word.now) c.args.words.now) (codes "slices") c.in_ok-live_parser.ensures (c.in_ok-matches.ensures (codes "slices")))
    (c.text_in-len.ensures ∙ tells (map (λ word. word.now) c.args.words.now) (codes "len") c.in_ok-live_parser.ensures (c.in_ok-matches.ensures (codes "len")))
    (c.in_ok-tape.ensures ∙ tells (map (λ word. word.now) c.args.words.now) (codes "tape") c.in_ok-live_parser.ensures (c.in_ok-matches.ensures (codes "tape")))
