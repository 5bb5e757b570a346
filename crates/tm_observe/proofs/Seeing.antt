-- What an observer saw, one look on.
use Rattle.std.proofs.Common.{◌≡◌, ℕ, ◌+◌, ◌<◌, Bool, true, false, List, refl, sym, ap, ◌∙◌, subst, arith}
use mathlib.Core.List.{IsPrefix}
use Rattle.tm_marker.specs.declared.entries.Slice.{Slice}
use Rattle.tm_image.specs.Image.{ImageView}
use Rattle.tm_watch.specs.Views.{Watched, Observed}
use Rattle.tm_watch.specs.Dumps.{dump_of}
use Rattle.tm_watch.proofs.Prefixes.{prefix_self, prefix_trans}
use Rattle.tm_observe.specs.Lookers.{LookerView, Looked}

-- no look was made yet
pub looked_none : (a : LookerView) → Looked 0 a a
looked_none a = record {
  book = refl;
  image = refl;
  told = refl;
  seen = prefix_self a.observer.seen;
  version = λ some fed. absurd (omega (arith, some));
}

-- one look more
pub looked_more : (looks : ℕ) (a b c : LookerView) → Looked looks a b → Looked 1 b c → Looked (looks + 1) a c
looked_more looks a b c p q = record {
  book = q.book ∙ p.book;
  image = q.image ∙ p.image;
  told = q.told ∙ p.told;
  seen = prefix_trans a.observer.seen b.observer.seen c.observer.seen p.seen q.seen;
  version = λ some fed. q.version (omega arith) fed ∙ ap (λ (image : ImageView). dump_of image c.observer.seen) p.image;
}
