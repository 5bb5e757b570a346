use Rattle.std.proofs.Common.{List, All, sym, ◌∙◌, subst}
use mathlib.Core.List.{IsPrefix}
use Rattle.tm_marker.specs.declared.entries.Slice.{Slice}
use Rattle.tm_watch.proofs.Prefixes.{all_begin, all_with}
use Rattle.tm_watch.proofs.observer.Observer.learn.Goals as goal

pub invariant_of-self : goal.invariant_of-self
invariant_of-self c =
    let longer = c.longer.ensures in
    let all = all_begin c.self.inside.told.log c.self.inside.longest.list c.longer.result.list longer.this.list c.self.invariant.2 in (
      c.self.invariant.0,
      longer.this.book ∙ c.self.invariant.1,
      subst (λ (lists : List (List Slice)). All (λ list. IsPrefix list c.longer.result.list) lists) (sym c.with_list.ensures)
          (all_with c.self.inside.told.log c.note.inside.front.list c.longer.result.list all longer.that.list),
      c.self.invariant.3,
    )
