-- What the steps of all kinds share.
use Rattle.std.proofs.Common.{◌≡◌, ℕ, zero, suc, ◌≤◌, arith, Bool, List, [], ◌∷◌, length, get_or, set, sym, refl, ap, ◌∙◌, subst, sum_by, count_by}
use Rattle.std.specs.Prelude.{nat_lt}
use mathlib.Core.Option.{some}
use lib.ListN.{get_elem?}
use Rattle.atomic_table.specs.Table.{Me, keeps, stepped}
use Rattle.atomic_table.proofs.Lists.{set_again}
use Rattle.tm_irq.specs.declared.views.Raise.{Raise}
use Rattle.tm_irq.specs.declared.views.Deeds.{Deeds}
use Rattle.tm_irq.specs.declared.views.View.{View}
use Rattle.tm_irq.specs.Views.{is_fresh, is_joined, fresh, seen, missed, in_all}
use Rattle.tm_irq.specs.Rule.{Board, IsBalanced, IsGlanced, Keeps}
use Rattle.tm_irq.proofs.Sums.{all_same}

abbrev pub Mine : Type 0
Mine = Me (Unit {0}) View

pub set_back : (words : List ℕ) (i : ℕ) → set words i (get_or words i 0) ≡ words
set_back [] i = refl
set_back (x ∷ xs) zero = refl
set_back (x ∷ xs) (suc i) = ap (λ ws. x ∷ ws) (set_back xs i)

-- a step that changes no word and no view
module _ (devices id i : ℕ) (me : Mine) (s : Board) (kept : Keeps devices s) (at : get_elem? s.views id ≡ some me.0) where
  pub unmoved : Keeps devices (stepped s i (get_or s.words i 0) id me.1 me.0 keeps)
  unmoved =
      let P : List ℕ × List View → Type 0 = λ z. Keeps devices (record { words = z.0; homes = s.homes; views = z.1 }) in
      subst P (λ k. (sym (set_back s.words i) k, sym (set_again s.views id me.0 at) k)) kept

module _ (devices id : ℕ) (me : Mine) (w : View) (s : Board) (kept : Keeps devices s) (at : get_elem? s.views id ≡ some me.0) where
  -- where the deeds stay, each sum does
  pub quiet : w.deeds ≡ me.0.deeds → (f : Deeds → ℕ) → in_all f (set s.views id w) ≡ in_all f s.views
  quiet deeds f = all_same f s.views id me.0 w at (ap (sum_by f) deeds)

-- where no raise is added, the balance stays
module _ (takes : List ℕ) (word : ℕ) (views after : List View) (same : (p : Raise → Bool) → in_all (λ d. count_by p d.raises) after ≡ in_all (λ d. count_by p d.raises) views) where
  pub balance_stays : IsBalanced takes word views → IsBalanced takes word after
  balance_stays b = record {
    pending = b.pending;
    lines = b.lines;
    parts = b.parts;
    one_fresh = λ l n. same (is_fresh l n) ∙ b.one_fresh l n;
    beside = λ l n none_fresh. same (is_joined l n) ∙ b.beside l n (sym (same (is_fresh l n)) ∙ none_fresh);
    numbers = same (λ r. nat_lt (length takes) r.number) ∙ b.numbers;
  }

-- where no glance is added, the glances stay true
pub glances_stay : (views after : List View) → ((line number : ℕ) → in_all (fresh line number) views ≤ in_all (fresh line number) after)
    → ((line number : ℕ) → in_all (seen line number) after ≡ in_all (seen line number) views) → in_all missed after ≡ in_all missed views → IsGlanced views → IsGlanced after
glances_stay views after more same own g = record {
  found = λ l n none_fresh. same l n ∙ g.found l n (let m = more l n in omega arith);
  own = own ∙ g.own;
}
