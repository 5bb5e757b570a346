use Rattle.std.proofs.Common.{List, refl, ap, subst}
use mathlib.Core.List.{IsPrefix}
use Rattle.tm_marker.specs.declared.entries.Slice.{Slice}
use Rattle.tm_watch.proofs.Prefixes.{begins_by}
use Rattle.tm_watch.proofs.history.Front.begins.Goals as goal

pub returns : goal.returns
returns c =
    let both = c.learn.new.self.log in
    let this : IsPrefix c.self.inside.seen.log both = subst (λ (l : List Slice). IsPrefix l both) (ap (λ s. s.log) c.again-both.ensures) c.learn.ensures.2 in
    rw (← c.self.view_is, ← c.other.view_is) (begins_by c.self.inside.seen.log c.other.inside.seen.log both c.self.inside.slices c.other.inside.slices
    c.self.invariant c.other.invariant this c.learn.ensures.3 _ refl)
