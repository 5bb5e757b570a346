use Rattle.std.proofs.Common.{◌∙◌, ap, refl}
use Rattle.std.specs.Prelude.{codes}
use Rattle.clap.specs.Words.{App, takes}
use Rattle.tm_words.specs.Parsers.{record_words}
use Rattle.tm_words.proofs.Parsing.{told, there, same_text, record_taken, record_image, record_plan, record_dump}
use Rattle.tm_words.proofs.reading.read_record.Goals as goal

pub matches_of-requires-clause-taken : goal.matches_of-requires-clause-taken
matches_of-requires-clause-taken c = ap (λ (a : App). takes a (record_words c.args.image.now c.args.plan.now c.args.dump.now)) c.in_ok-record_parser.ensures ∙ record_taken c.args.image.now c.args.plan.now c.args.dump.now

pub name_in-requires : goal.name_in-requires
name_in-requires c = there (told (record_words c.args.image.now c.args.plan.now c.args.dump.now) (codes "image") c.in_ok-record_parser.ensures (c.in_ok-matches.ensures (codes "image")) (record_image c.args.image.now c.args.plan.now c.args.dump.now))

pub name_in-requires-2 : goal.name_in-requires-2
name_in-requires-2 c = there (told (record_words c.args.image.now c.args.plan.now c.args.dump.now) (codes "plan") c.in_ok-record_parser.ensures (c.in_ok-matches.ensures (codes "plan")) (record_plan c.args.image.now c.args.plan.now c.args.dump.now))

pub name_in-requires-3 : goal.name_in-requires-3
name_in-requires-3 c = there (told (record_words c.args.image.now c.args.plan.now c.args.dump.now) (codes "dump") c.in_ok-record_parser.ensures (c.in_ok-matches.ensures (codes "dump")) (record_dump c.args.image.now c.args.plan.now c.args.dump.now))

pub returns : goal.returns
returns c =
    let first = same_text c.in_ok-image.ensures (told (record_words c.args.image.now c.args.plan.now c.args.dump.now) (codes "image") c.in_ok-record_parser.ensures (c.in_ok-matches.ensures (codes "image")) (record_image c.args.image.now c.args.plan.now c.args.dump.now)) in
    let second = same_text c.in_ok-plan.ensures (told (record_words c.args.image.now c.args.plan.now c.args.dump.now) (codes "plan") c.in_ok-record_parser.ensures (c.in_ok-matches.ensures (codes "plan")) (record_plan c.args.image.now c.args.plan.now c.args.dump.now)) in
    let third = same_text c.in_ok-dump.ensures (told (record_words c.args.image.now c.args.plan.now c.args.dump.now) (codes "dump") c.in_ok-record_parser.ensures (c.in_ok-matches.ensures (codes "dump")) (record_dump c.args.image.now c.args.plan.now c.args.dump.now)) in
    rw (first, second, third) refl
