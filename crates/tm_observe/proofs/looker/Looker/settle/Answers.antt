use Rattle.std.proofs.Common.{◌≡◌, ◌⊎◌, ◌<◌, ◌≤◌, List, ap, subst, ◌∙◌, sym, false, length, arith}
use mathlib.Core.List.{IsPrefix}
use Rattle.tm_marker.specs.declared.entries.Slice.{Slice}
use Rattle.tm_watch.specs.Views.{Observed}
use Rattle.tm_watch.specs.Dumps.{dump_of}
use Rattle.tm_observe.specs.Lookers.{LookerView, IsVersion}
use Rattle.tm_observe.proofs.Settling.{whole_version, own_version}
use Rattle.tm_observe.proofs.looker.Looker.settle.Goals as goal

pub returns-then-seen_slices-slices-clause-version : goal.returns-then-seen_slices-slices-clause-version
returns-then-seen_slices-slices-clause-version c =
    let looker = c.args.self.now in
    let list = c.args.tape.now.slices in
    let fed : looker.starved ≡ false = sym (ap (λ (l : LookerView). l.starved) c.self.view_is) ∙ c.if-self.false in
    let same : length c.learn.new.self.seen ≡ length c.self.inside.observer.seen = ap (λ (o : Observed). length o.seen) c.learn.ensures.rest in
    let seen : length c.self.inside.observer.seen ≡ length looker.observer.seen = ap (λ (l : LookerView). length l.observer.seen) c.self.view_is in
    let past : length list < length looker.observer.seen = omega (arith, c.if-seen_slices-slices.true, c.seen_slices.ensures, ap length c.slices.ensures.slices, same, seen) in
    whole_version (λ bytes. bytes.items) c.args.image.now c.in_ok-copy.field-0 list c.slices-then-seen_slices-slices.result.now looker
    c.in_ok-copy.ensures.copied c.slices-then-seen_slices-slices.ensures.slices fed past c.run_dump.result c.run_dump.ensures

pub returns-clause-version : goal.returns-clause-version
returns-clause-version c =
    let image = c.args.image.now in
    let list = c.args.tape.now.slices in
    let looker : LookerView = record { observer = c.self.inside.observer; version = c.self.inside.version.items; starved = c.self.inside.starved } in
    let shown = subst (λ (l : LookerView). l.starved ≡ false → l.version ≡ dump_of image l.observer.seen) (sym c.self.view_is) c.requires.shown in
    let same : length c.learn.new.self.seen ≡ length looker.observer.seen = ap (λ (o : Observed). length o.seen) c.learn.ensures.rest in
    let within : length looker.observer.seen ≤ length list = omega (arith, c.if-seen_slices-slices.false, c.seen_slices.ensures, ap length c.slices.ensures.slices, same) in
    let one = subst (λ (l : List Slice). IsPrefix looker.observer.seen l ⊎ IsPrefix l looker.observer.seen) c.requires.list c.learn.ensures.one_begins in
    subst (λ (l : LookerView). IsVersion image list l c.replace.result.items) c.self.view_is
    (own_version image list looker c.replace.result.items c.if-self.false within one (shown c.if-self.false) (ap (λ v. v.items) c.replace.ensures.value))
