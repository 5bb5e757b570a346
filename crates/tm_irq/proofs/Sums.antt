-- Sums over lists and views, and what one change does to them.
use Rattle.std.proofs.Common.{◌≡◌, ℕ, zero, suc, ◌+◌, ◌≤◌, Bool, cond, List, [], ◌∷◌, ◌++◌, map, set, sum_by, count_by, sym, refl, ap, subst, arith}
use Rattle.std.proofs.lemmas.List.Sums.{sum_by-cons, sum_by_push}
use mathlib.Core.Option.{some, some-injective, some-ne-none}
use lib.ListN.{get_elem?}
use Rattle.tm_irq.specs.declared.views.Raise.{Raise}
use Rattle.tm_irq.specs.declared.views.Store.{Store}
use Rattle.tm_irq.specs.declared.views.Glance.{Glance}
use Rattle.tm_irq.specs.declared.views.Deeds.{Deeds}
use Rattle.tm_irq.specs.declared.views.View.{View}
use Rattle.tm_irq.specs.Views.{in_view, in_all, with_raise, with_store, glance_of, with_glance}

module _ {A : Type 0} (f : A → ℕ) where
  pub sum_set : (l : List A) (i : ℕ) (v w : A) → get_elem? l i ≡ some v → sum_by f (set l i w) + f v ≡ sum_by f l + f w
  sum_set [] i v w e = absurd (some-ne-none v (sym e))
  sum_set (x ∷ xs) zero v w e = let is : f x ≡ f v = ap f (some-injective x v e) in omega (arith, sum_by-cons f w xs, sum_by-cons f x xs)
  sum_set (x ∷ xs) (suc i) v w e = omega (arith, sum_set xs i v w e, sum_by-cons f x (set xs i w), sum_by-cons f x xs)

  pub sum_at : (l : List A) (i : ℕ) (v : A) → get_elem? l i ≡ some v → f v ≤ sum_by f l
  sum_at [] i v e = absurd (some-ne-none v (sym e))
  sum_at (x ∷ xs) zero v e = let is : f x ≡ f v = ap f (some-injective x v e) in omega (arith, sum_by-cons f x xs)
  sum_at (x ∷ xs) (suc i) v e = omega (arith, sum_at xs i v e, sum_by-cons f x xs)

  pub sum_mapped : (g : A → A) → ((x : A) → f (g x) ≡ f x) → (l : List A) → sum_by f (map g l) ≡ sum_by f l
  sum_mapped g same [] = refl
  sum_mapped g same (x ∷ xs) = omega (arith, sum_mapped g same xs, same x, sum_by-cons f (g x) (map g xs), sum_by-cons f x xs)

-- one function below another
pub sum_below : {A : Type 0} (f g : A → ℕ) → ((x : A) → f x ≤ g x) → (l : List A) → sum_by f l ≤ sum_by g l
sum_below f g le [] = omega arith
sum_below f g le (x ∷ xs) = omega (arith, sum_below f g le xs, le x, sum_by-cons f x xs, sum_by-cons g x xs)

module _ (f : Deeds → ℕ) (views : List View) (id : ℕ) (v w : View) where
  -- where one view changes, the sum over all changes as much
  pub all_set : (k : ℕ) → get_elem? views id ≡ some v → in_view f w ≡ in_view f v + k → in_all f (set views id w) ≡ in_all f views + k
  all_set k at more = omega (arith, sum_set (in_view f) views id v w at)

  pub all_same : get_elem? views id ≡ some v → in_view f w ≡ in_view f v → in_all f (set views id w) ≡ in_all f views
  all_same at same = omega (arith, sum_set (in_view f) views id v w at)

-- a raise more in the one device's deeds
pub raised_more : (p : Raise → Bool) (r : Raise) (v : View) (d : Deeds) → v.deeds ≡ d ∷ []
    → in_view (λ e. count_by p e.raises) (with_raise r v) ≡ in_view (λ e. count_by p e.raises) v + cond (p r) 1 0
raised_more p r v d is =
    let F : Deeds → ℕ = λ e. count_by p e.raises in
    let P : List Deeds → Type 0 = λ ds. sum_by F (map (λ (e : Deeds). record e { raises = e.raises ++ r ∷ [] }) ds) ≡ sum_by F ds + cond (p r) 1 0 in
    subst P (sym is) (omega (arith, sum_by_push (λ (x : Raise). cond (p x) 1 0) d.raises r))

-- and a store more
pub stored_more : (p : Store → Bool) (s : Store) (v : View) (d : Deeds) → v.deeds ≡ d ∷ []
    → in_view (λ e. count_by p e.stores) (with_store s v) ≡ in_view (λ e. count_by p e.stores) v + cond (p s) 1 0
stored_more p s v d is =
    let F : Deeds → ℕ = λ e. count_by p e.stores in
    let P : List Deeds → Type 0 = λ ds. sum_by F (map (λ (e : Deeds). record e { stores = e.stores ++ s ∷ [] }) ds) ≡ sum_by F ds + cond (p s) 1 0 in
    subst P (sym is) (omega (arith, sum_by_push (λ (x : Store). cond (p x) 1 0) d.stores s))

-- and a glance more
pub glanced_more : (h : Glance → ℕ) (mask number : ℕ) (v : View) (d : Deeds) → v.deeds ≡ d ∷ []
    → in_view (λ e. sum_by h e.glances) (with_glance mask number v) ≡ in_view (λ e. sum_by h e.glances) v + h (glance_of mask number d)
glanced_more h mask number v d is =
    let F : Deeds → ℕ = λ e. sum_by h e.glances in
    let P : List Deeds → Type 0 = λ ds. sum_by F (map (λ (e : Deeds). record e { glances = e.glances ++ glance_of mask number e ∷ [] }) ds) ≡ sum_by F ds + h (glance_of mask number d) in
    subst P (sym is) (omega (arith, sum_by_push h d.glances (glance_of mask number d)))

-- what doesn't look at the raises stays at a raise, and what doesn't look at the stores at a set
pub raised_same : (f : Deeds → ℕ) (r : Raise) (v : View) → ((d : Deeds) → f (record d { raises = d.raises ++ r ∷ [] }) ≡ f d) → in_view f (with_raise r v) ≡ in_view f v
raised_same f r v same = sum_mapped f (λ (d : Deeds). record d { raises = d.raises ++ r ∷ [] }) same v.deeds

pub stored_same : (f : Deeds → ℕ) (s : Store) (v : View) → ((d : Deeds) → f (record d { stores = d.stores ++ s ∷ [] }) ≡ f d) → in_view f (with_store s v) ≡ in_view f v
stored_same f s v same = sum_mapped f (λ (d : Deeds). record d { stores = d.stores ++ s ∷ [] }) same v.deeds

pub glanced_same : (f : Deeds → ℕ) (mask number : ℕ) (v : View) → ((d : Deeds) → f (record d { glances = d.glances ++ glance_of mask number d ∷ [] }) ≡ f d) → in_view f (with_glance mask number v) ≡ in_view f v
glanced_same f mask number v same = sum_mapped f (λ (d : Deeds). record d { glances = d.glances ++ glance_of mask number d ∷ [] }) same v.deeds
