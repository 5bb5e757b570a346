use Rattle.std.proofs.Common.{◌≡◌, ◌%◌, ◌<◌, ◌≤◌, length, ap, sym, subst, ◌∙◌, arith, refl}
use Rattle.tm_marker.specs.declared.body.Body.{Body}
use Rattle.tm_image.specs.Image.{shape_of}
use Rattle.tm_task.specs.Standing.{TaskView}
use Rattle.tm_replay.proofs.Starts.{found, starts_at}
use Rattle.tm_replay.proofs.task.walker_at.Goals as goal

pub new-requires-2-clause-some : goal.new-requires-2-clause-some
new-requires-2-clause-some c =
    let f = found c.args.window.now (shape_of c.args.image.now) c.args.task c.args.epoch c.checks-checks.result.now c.in-Some.check c.with_epoch.result
    c.restore.new.into c.requires.formed c.requires.task c.requires.kept c.checks-checks.ensures.checks c.total.ensures.checks
    c.with_epoch.ensures.checkpoint c.in-Some.is c.restore.ensures in
    omega (arith, ap length c.as_slice.ensures, f.words, c.total.ensures.checks.words.some)

pub new-requires-2-clause-few : goal.new-requires-2-clause-few
new-requires-2-clause-few c =
    let f = found c.args.window.now (shape_of c.args.image.now) c.args.task c.args.epoch c.checks-checks.result.now c.in-Some.check c.with_epoch.result
    c.restore.new.into c.requires.formed c.requires.task c.requires.kept c.checks-checks.ensures.checks c.total.ensures.checks
    c.with_epoch.ensures.checkpoint c.in-Some.is c.restore.ensures in
    omega (arith, ap length c.as_slice.ensures, f.words, c.total.ensures.checks.words.few)

pub load-requires-clause-pc : goal.load-requires-clause-pc
load-requires-clause-pc c =
    let f = found c.args.window.now (shape_of c.args.image.now) c.args.task c.args.epoch c.checks-checks.result.now c.in-Some.check c.with_epoch.result
    c.restore.new.into c.requires.formed c.requires.task c.requires.kept c.checks-checks.ensures.checks c.total.ensures.checks
    c.with_epoch.ensures.checkpoint c.in-Some.is c.restore.ensures in
    subst (λ (b : Body). b.pc % 4 ≡ 0) (sym f.own) f.start.aligned

pub returns : goal.returns
returns c =
    let f = found c.args.window.now (shape_of c.args.image.now) c.args.task c.args.epoch c.checks-checks.result.now c.in-Some.check c.with_epoch.result
    c.restore.new.into c.requires.formed c.requires.task c.requires.kept c.checks-checks.ensures.checks c.total.ensures.checks
    c.with_epoch.ensures.checkpoint c.in-Some.is c.restore.ensures in
    starts_at c.args.image.now c.args.window.now c.args.task c.args.epoch _ f.start refl
    (ap (λ (t : TaskView). t.entry) c.load.ensures.loaded ∙ ap (λ (t : TaskView). t.entry) c.in_ok-start.ensures.boot ∙ c.entry.ensures.value)
    c.text.ensures.value c.log.ensures.log f.number
    (ap (λ (t : TaskView). t.standing) c.load.ensures.loaded ∙ ap (λ (b : Body). record { body = b; epoch = c.args.epoch; count = 0 }) f.own)
    refl c.new-3.ensures
    (subst (λ x. 0 < length x.words) (sym c.text.ensures.value) c.text.ensures.sound.some_text)
    (subst (λ x. length x.words ≤ 16384) (sym c.text.ensures.value) c.text.ensures.sound.short_text) c.load.ensures.task
