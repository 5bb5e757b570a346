use Rattle.std.proofs.Common.{◌∙◌}
use Rattle.tm_words.proofs.Watching.{written, taken, asked_by_words, answered}
use Rattle.tm_words.proofs.watch.read_watch.Goals as goal

pub read_words-requires : goal.read_words-requires
read_words-requires c =
    taken c.args.form.now.image.now c.args.form.now.plant.now c.args.form.now.prefix.now c.args.form.now.slices.now c.args.form.now.len.now c.args.form.now.observers.now c.args.form.now.looks.now
    (written c.args.form.now.image.now c.args.form.now.plant.now c.args.form.now.prefix.now c.args.form.now.slices.now c.args.form.now.len.now c.args.form.now.observers.now c.args.form.now.looks.now
    (c.as_str.ensures.value ∙ c.in_ok-slices.ensures.ok)
    (c.as_str-2.ensures.value ∙ c.in_ok-len.ensures.ok)
    (c.as_str-3.ensures.value ∙ c.in_ok-observers.ensures.ok)
    (c.as_str-4.ensures.value ∙ c.in_ok-looks.ensures.ok))

pub returns : goal.returns
returns c =
    answered c.read_words.result
    (asked_by_words c.args.form.now.image.now c.args.form.now.plant.now c.args.form.now.prefix.now c.args.form.now.slices.now c.args.form.now.len.now c.args.form.now.observers.now c.args.form.now.looks.now
    (written c.args.form.now.image.now c.args.form.now.plant.now c.args.form.now.prefix.now c.args.form.now.slices.now c.args.form.now.len.now c.args.form.now.observers.now c.args.form.now.looks.now
    (c.as_str.ensures.value ∙ c.in_ok-slices.ensures.ok)
    (c.as_str-2.ensures.value ∙ c.in_ok-len.ensures.ok)
    (c.as_str-3.ensures.value ∙ c.in_ok-observers.ensures.ok)
    (c.as_str-4.ensures.value ∙ c.in_ok-looks.ensures.ok)))
    c.read_words.ensures
