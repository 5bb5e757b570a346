use Rattle.std.proofs.Common.{◌∙◌, map}
use Rattle.std.specs.Prelude.{codes}
use Rattle.tm_words.proofs.Driving.{is_there, text_is}
use Rattle.tm_words.proofs.Watching.{tells, asked_same}
use Rattle.tm_words.proofs.watch.read_words.Goals as goal

pub name_in-requires : goal.name_in-requires
name_in-requires c = is_there (tells (map (λ word. word.now) c.args.words.now) (codes "image") c.in_ok-watch_parser.ensures (c.in_ok-matches.ensures (codes "image"))) c.requires.image

pub name_in-requires-2 : goal.name_in-requires-2
name_in-requires-2 c = is_there (tells (map (λ word. word.now) c.args.words.now) (codes "plant") c.in_ok-watch_parser.ensures (c.in_ok-matches.ensures (codes "plant"))) c.requires.plant

pub name_in-requires-3 : goal.name_in-requires-3
name_in-requires-3 c = is_there (tells (map (λ word. word.now) c.args.words.now) (codes "prefix") c.in_ok-watch_parser.ensures (c.in_ok-matches.ensures (codes "prefix"))) c.requires.prefix

pub text_in-slices-requires : goal.text_in-slices-requires
text_in-slices-requires c = is_there (tells (map (λ word. word.now) c.args.words.now) (codes "slices") c.in_ok-watch_parser.ensures (c.in_ok-matches.ensures (codes "slices"))) c.requires.slices

pub text_in-len-requires : goal.text_in-len-requires
text_in-len-requires c = is_there (tells (map (λ word. word.now) c.args.words.now) (codes "len") c.in_ok-watch_parser.ensures (c.in_ok-matches.ensures (codes "len"))) c.requires.len

pub text_in-observers-requires : goal.text_in-observers-requires
text_in-observers-requires c = is_there (tells (map (λ word. word.now) c.args.words.now) (codes "observers") c.in_ok-watch_parser.ensures (c.in_ok-matches.ensures (codes "observers"))) c.requires.observers

pub text_in-looks-requires : goal.text_in-looks-requires
text_in-looks-requires c = is_there (tells (map (λ word. word.now) c.args.words.now) (codes "looks") c.in_ok-watch_parser.ensures (c.in_ok-matches.ensures (codes "looks"))) c.requires.looks

pub returns : goal.returns
returns c =
    c.command_of.ensures ∙ asked_same
    (text_is (c.in_ok-image.ensures ∙ (tells (map (λ word. word.now) c.args.words.now) (codes "image") c.in_ok-watch_parser.ensures (c.in_ok-matches.ensures (codes "image")))))
    (text_is (c.in_ok-plant.ensures ∙ (tells (map (λ word. word.now) c.args.words.now) (codes "plant") c.in_ok-watch_parser.ensures (c.in_ok-matches.ensures (codes "plant")))))
    (text_is (c.in_ok-prefix.ensures ∙ (tells (map (λ word. word.now) c.args.words.now) (codes "prefix") c.in_ok-watch_parser.ensures (c.in_ok-matches.ensures (codes "prefix")))))
    (c.text_in-slices.ensures ∙ (tells (map (λ word. word.now) c.args.words.now) (codes "slices") c.in_ok-watch_parser.ensures (c.in_ok-matches.ensures (codes "slices"))))
    (c.text_in-len.ensures ∙ (tells (map (λ word. word.now) c.args.words.now) (codes "len") c.in_ok-watch_parser.ensures (c.in_ok-matches.ensures (codes "len"))))
    (c.text_in-observers.ensures ∙ (tells (map (λ word. word.now) c.args.words.now) (codes "observers") c.in_ok-watch_parser.ensures (c.in_ok-matches.ensures (codes "observers"))))
    (c.text_in-looks.ensures ∙ (tells (map (λ word. word.now) c.args.words.now) (codes "looks") c.in_ok-watch_parser.ensures (c.in_ok-matches.ensures (codes "looks"))))
