use Rattle.std.proofs.Common.{drop, Some}
use Rattle.tm_words.proofs.Driving.{taped, taken, asked_by_words, answered}
use Rattle.tm_words.proofs.reading.read_taped.Goals as goal

pub read_live_words-requires : goal.read_live_words-requires
read_live_words-requires c =
    taken c.args.image.now c.args.plant.now c.args.dump.now (drop 9 c.args.slices.now) (drop 6 c.args.len.now) (Some (drop 7 c.args.tape.now))
    (taped c.args.image.now c.args.plant.now c.args.dump.now c.args.slices.now c.args.len.now c.args.tape.now
    c.requires.slices c.requires.len c.requires.tape)

pub returns : goal.returns
returns c =
    answered c.read_live_words.result
    (asked_by_words c.args.image.now c.args.plant.now c.args.dump.now (drop 9 c.args.slices.now) (drop 6 c.args.len.now) (Some (drop 7 c.args.tape.now))
    (taped c.args.image.now c.args.plant.now c.args.dump.now c.args.slices.now c.args.len.now c.args.tape.now
    c.requires.slices c.requires.len c.requires.tape))
    c.read_live_words.ensures
