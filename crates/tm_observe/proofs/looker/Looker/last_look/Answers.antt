use Rattle.std.proofs.Common.{◌≡◌, Contains, sym, ap, ap₂, ◌∙◌, subst, arith, length}
use Rattle.tm_watch.specs.Views.{Observed}
use Rattle.tm_watch.specs.Dumps.{dump_of}
use Rattle.tm_observe.specs.Lookers.{LookerView}
use Rattle.tm_observe.proofs.Settling.{whole_where_told}
use Rattle.tm_observe.proofs.looker.Looker.last_look.Goals as goal

pub returns-then-seen_slices-slices : goal.returns-then-seen_slices-slices
returns-then-seen_slices-slices g c =
    let list = c.args.tape.now.slices in
    let observer : c.args.self.now.observer ≡ c.self.inside.observer = sym (ap (λ (v : LookerView). v.observer) c.self.view_is) in
    let told : Contains c.self.inside.observer.told list = subst (λ (o : Observed). Contains o.told list) observer c.requires.told in
    let whole : c.look.new.self.seen ≡ list =
    whole_where_told c.self.inside.observer.told list c.look.new.self.seen told c.in_ok-look.ensures.no_less (omega (arith, c.if-seen_slices-slices.true, c.seen_slices.ensures, ap length c.slices.ensures.slices)) in
    let dump : c.look.new.into.items ≡ dump_of c.self.inside.observer.image c.look.new.self.seen = c.in_ok-look.ensures.dump in
    let image : c.self.inside.observer.image ≡ c.args.image.now = sym (ap (λ (o : Observed). o.image) observer) ∙ c.requires.image in
    dump ∙ ap₂ dump_of image whole
