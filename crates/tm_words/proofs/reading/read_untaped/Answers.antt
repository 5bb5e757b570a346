use Rattle.std.proofs.Common.{drop, None}
use Rattle.tm_words.proofs.Driving.{untaped, taken, asked_by_words, answered}
use Rattle.tm_words.proofs.reading.read_untaped.Goals as goal

pub read_live_words-requires : goal.read_live_words-requires
read_live_words-requires c =
    taken c.args.image.now c.args.plant.now c.args.dump.now (drop 9 c.args.slices.now) (drop 6 c.args.len.now) None
    (untaped c.args.image.now c.args.plant.now c.args.dump.now c.args.slices.now c.args.len.now c.requires.slices c.requires.len)

pub returns : goal.returns
returns c =
    answered c.read_live_words.result
    (asked_by_words c.args.image.now c.args.plant.now c.args.dump.now (drop 9 c.args.slices.now) (drop 6 c.args.len.now) None
    (untaped c.args.image.now c.args.plant.now c.args.dump.now c.args.slices.now c.args.len.now c.requires.slices c.requires.len))
    c.read_live_words.ensures
