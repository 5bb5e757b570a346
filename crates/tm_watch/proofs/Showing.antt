-- Each step of the writer and of a reader keeps the rule of the versions.
use Rattle.std.proofs.Common.{◌≡◌, ◌≢◌, ℕ, List, [], ◌∷◌, ◌++◌, Option, Some, None, set, refl, ap, sym, ◌∙◌, subst, ⊎_elim}
use mathlib.Core.Option.{some, some-ne-none}
use lib.ListN.{get_elem?}
use Rattle.crossbeam_utils.specs.Register.{Admits, Turns, TurnsAt, Forks, Merges}
use Rattle.atomic_table.proofs.Lists.{at_set, at_snoc, set_again}
use Rattle.tm_watch.specs.declared.version.Version.{Version}
use Rattle.tm_watch.specs.Versions.{origin, IsWhole}
use Rattle.tm_watch.specs.Rule.{Keeps, Sees, Shows}

-- who knows an origin knows this version's
abbrev Known : Version → List (Option Version) → Type 0
Known x views = (seat : ℕ) (first : Version) → get_elem? views seat ≡ some (Some first) → first ≡ origin x

-- what one view says is true of the version
abbrev Own : Version → Option Version → Type 0
Own x v = (first : Version) → v ≡ Some first → first ≡ origin x

own_at : (x : Version) (views : List (Option Version)) (seat : ℕ) (v : Option Version) → Known x views → get_elem? views seat ≡ some v → Own x v
own_at x views seat v known at first is = known seat first (at ∙ ap some is)

set_known : (x : Version) (views : List (Option Version)) (seat : ℕ) (v : Option Version) → Known x views → Own x v → Known x (set views seat v)
set_known x views seat v known own j first there =
    ⊎_elim (λ (t : (j ≡ seat) × (v ≡ Some first)). own first t.1)
    (λ (t : (j ≢ seat) × (get_elem? views j ≡ some (Some first))). known j first t.1)
    (at_set views seat j v (Some first) there)

snoc_known : (x : Version) (views : List (Option Version)) (v : Option Version) → Known x views → Own x v → Known x (views ++ v ∷ [])
snoc_known x views v known own j first there =
    ⊎_elim (λ (at : get_elem? views j ≡ some (Some first)). known j first at) (λ (is : v ≡ Some first). own first is) (at_snoc views v (Some first) j there)

nothing_known : (x : Version) → Own x None
nothing_known x first is = absurd (cc is)

-- a seat that knows nothing may come
pub admits : Admits Keeps None
admits x views kept = record { whole = kept.whole; known = snoc_known x views None kept.known (nothing_known x) }

-- a version whose run is of its list may be the first that is shown
pub begins : (x : Version) → IsWhole x → Keeps x (None ∷ [])
begins x whole = admits x [] (record { whole = whole; known = λ seat first at. absurd (some-ne-none (Some first) (sym at)) })

-- a reader sees the version that is shown
pub sees : (seat : ℕ) (v : Option Version) → Turns Keeps seat v (λ x. x) Sees
sees seat v x views kept at = (
  v,
  subst (λ (vs : List (Option Version)). Keeps x vs) (sym (set_again views seat v at)) kept,
  record { same = refl; whole = kept.whole; known = own_at x views seat v kept.known at },
)

-- the writer shows a version of the same origin whose run is of its list
pub shows : (seat : ℕ) (v : Option Version) (x y : Version) → origin y ≡ origin x → IsWhole y → TurnsAt Keeps seat v x y Shows
shows seat v x y same whole views kept at = (
  Some (origin y),
  record {
    whole = whole;
    known = set_known y views seat (Some (origin y)) (λ j first there. kept.known j first there ∙ sym same) (λ first is. sym (cc is));
  },
  refl,
)

-- the writer cuts its view in two
pub forks : (seat : ℕ) (v : Option Version) → Forks Keeps seat v v v
forks seat v x views kept at =
    let own : Own x v = own_at x views seat v kept.known at in
    record { whole = kept.whole; known = snoc_known x (set views seat v) v (set_known x views seat v kept.known own) own }

-- a reader takes in the view of another seat
pub merges : (seat : ℕ) (v : Option Version) (other : ℕ) (w : Option Version) → Merges Keeps seat v other w w None
merges seat v other w x views kept at apart there =
    let theirs : get_elem? views other ≡ some w =
    ⊎_elim (λ (t : (other ≡ seat) × (w ≡ w)). absurd (apart t.0)) (λ (t : (other ≢ seat) × (get_elem? views other ≡ some w)). t.1) (at_set views seat other w w there) in
    let own : Own x w = own_at x views other w kept.known theirs in
    record { whole = kept.whole; known = set_known x (set views seat w) other None (set_known x views seat w kept.known own) (nothing_known x) }
