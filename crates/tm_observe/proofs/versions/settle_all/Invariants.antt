use Rattle.std.proofs.Common.{take}
use Rattle.std.specs.List.{AllZip}
use Rattle.tm_observe.specs.Lookers.{IsVersion}
use Rattle.tm_observe.proofs.Settling.{ToldSome}
use Rattle.tm_observe.proofs.versions.settle_all.Given as goal

abbrev pub invariant-loop-looker : goal.invariant-loop-looker
invariant-loop-looker l = record {
  versions : AllZip (λ looker bytes. IsVersion l.image l.tape.slices looker bytes.items) (take l.looker-index l.fn.lookers) l.beside.items;
  told : ToldSome l.looker-index l.watch.list l.fn.lookers l.lookers;
}
