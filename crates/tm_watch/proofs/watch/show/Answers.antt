use Rattle.std.proofs.Common.{sym, ap, ◌∙◌, subst}
use Rattle.tm_watch.specs.Versions.{origin, IsWhole}
use Rattle.tm_watch.proofs.Showing.{shows}
use Rattle.tm_watch.proofs.watch.show.Goals as goal

pub publish_as-requires : goal.publish_as-requires
publish_as-requires g c next is = shows _ _ _ next (ap origin is ∙ c.requires.origin) (subst IsWhole (sym is) c.requires.whole)
