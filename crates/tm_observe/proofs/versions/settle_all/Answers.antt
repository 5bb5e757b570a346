use Rattle.std.proofs.Common.{◌≡◌, ℕ, ◌+◌, ◌<◌, ◌∙◌, sym, ap, subst, List, ◌∷◌, [], ◌++◌, length, take, get_or, arith, Vec, Global}
use Rattle.std.specs.List.{AllZip}
use Rattle.tm_marker.specs.declared.entries.Slice.{Slice}
use Rattle.tm_observe.specs.Lookers.{LookerView, with_told, IsVersion}
use Rattle.tm_observe.proofs.Settling.{each_more, told_more}
use Rattle.tm_observe.proofs.versions.settle_all.Goals as goal

pub loop-looker-preserved : goal.loop-looker-preserved
loop-looker-preserved c =
    let lookers = c.args.lookers.now in
    let list = c.args.watch.now.list in
    let index = c.loop-looker.looker-index in
    let e = c.looker-item.result in
    let looker = get_or c.loop-looker.lookers index e in
    let told = c.loop-looker.invariant.told in
    let there : index < length c.loop-looker.lookers = omega (arith, c.loop-looker-test.true) in
    let within : index < length lookers = omega (arith, there, told.number) in
    let is : looker ≡ get_or lookers index e = told.rest index e (omega arith) within in
    let given : c.tell.result.list ≡ list = c.tell.ensures.list in
    let learnt : c.settle.new.self.observer ≡ with_told looker.observer c.tell.result.list = c.settle.ensures.learnt in
    let R : LookerView → Vec ℕ Global → Type 0 = λ looker bytes. IsVersion c.args.image.now c.args.tape.now.slices looker bytes.items in record {
      versions = subst (λ (items : List (Vec ℕ Global)). AllZip R (take (index + 1) lookers) items) (sym c.in_ok-push.ensures.items)
          (each_more R lookers c.loop-looker.beside.items index e looker c.in_ok-bytes.bytes within is c.loop-looker.invariant.versions c.in_ok-bytes.ensures.version);
      told = told_more index list lookers c.loop-looker.lookers e c.settle.new.self there (learnt ∙ ap (λ (l : List Slice). with_told looker.observer l) given) told;
    }
