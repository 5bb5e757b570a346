-- A take keeps the rule: the mask has exactly the bits that pended, and no entry has the new number yet.
use Rattle.std.proofs.Common.{◌≡◌, ℕ, ◌+◌, ◌*◌, ◌%◌, ◌<◌, ◌≤◌, true, cond, List, [], ◌∷◌, ◌++◌, length, get_or, set, sym, refl, ap, ◌∙◌, subst, arith, get_or-set_same, get_or-set_other, length-set, length-append}
use Rattle.std.specs.Prelude.{nat_lt}
use Rattle.std.proofs.lemmas.Bool.Decides.{nat_tests}
use mathlib.Core.Option.{none}
use Rattle.atomic_table.specs.Table.{step, keeps, Allows}
use Rattle.tm_irq.specs.declared.views.Raise.{Raise}
use Rattle.tm_irq.specs.declared.views.Deeds.{Deeds}
use Rattle.tm_irq.specs.declared.views.View.{View}
use Rattle.tm_irq.specs.Views.{fresh, joined, late, stored, seen, missed, in_view, in_all}
use Rattle.tm_irq.specs.Rule.{IsBalanced, Keeps, has_line}
use Rattle.tm_irq.specs.Steps.{Takes}
use Rattle.tm_irq.proofs.Sums.{sum_below}
use Rattle.tm_irq.proofs.Bits.{line_taken}
use Rattle.tm_irq.proofs.Seating.{kernels_view, kernel_steps}
use Rattle.tm_irq.proofs.Storing.{stored_stays}
use Rattle.tm_irq.proofs.Keeping.{Mine, quiet, glances_stay}

later : (n number : ℕ) → cond {A = ℕ} (nat_lt (n + 1) number) 1 0 ≤ cond (nat_lt n number) 1 0
later n number = grind (arith, nat_tests)

-- a take moves the bits that pend into a mask of its own
module _ (takes : List ℕ) (word : ℕ) (views after : List View) (b : IsBalanced takes word views) (same : (f : Deeds → ℕ) → in_all f after ≡ in_all f views) where
  take_is : word % 65536 ≡ b.pending
  take_is = let p = b.parts in let l = b.lines in omega arith

  late_less : (d : Deeds) → late (length takes + 1) d ≤ late (length takes) d
  late_less d = sum_below (λ (r : Raise). cond (nat_lt (length takes + 1) r.number) 1 0) (λ r. cond (nat_lt (length takes) r.number) 1 0) (λ r. later (length takes) r.number) d.raises

  taken_balances : (new : ℕ) → new ≡ 65536 * (length takes + 1) → IsBalanced (takes ++ (word % 65536) ∷ []) new after
  taken_balances new is =
      let longer = length-append takes ((word % 65536) ∷ []) in
      let masks : (l n : ℕ) → has_line (takes ++ (word % 65536) ∷ []) 0 n l ≡ has_line takes b.pending n l = λ l n. ap (λ m. has_line (takes ++ m ∷ []) 0 n l) take_is ∙ line_taken takes b.pending n l in record {
        pending = 0;
        lines = omega arith;
        parts = is ∙ omega arith;
        one_fresh = λ l n. same (fresh l n) ∙ b.one_fresh l n ∙ sym (masks l n);
        beside = λ l n none_fresh. same (joined l n) ∙ b.beside l n (sym (same (fresh l n)) ∙ none_fresh);
        numbers =
            let len : length (takes ++ (word % 65536) ∷ []) ≡ length takes + 1 = omega arith in
            let less : in_all (late (length takes + 1)) after ≤ in_all (late (length takes)) after = sum_below (in_view (late (length takes + 1))) (in_view (late (length takes))) (λ v. sum_below (late (length takes + 1)) (late (length takes)) late_less v.deeds) after in
            subst (λ k. in_all (late k) after ≡ 0) (sym len) (omega (arith, same (late (length takes)), b.numbers));
      }

-- a take
pub takes_at : (devices slots id : ℕ) (me : Mine) (new : ℕ) → me.0.kernel ≡ true → new ≡ 65536 * (length me.0.takes + 1)
    → Allows (Keeps devices) slots id me 0 (λ _. new) (Takes (step slots 0 new 0 none) me)
takes_at devices slots id me new is_kernel is s kept wide at small =
    let five = kept.five in
    let word : ℕ = get_or s.words 0 0 in
    let here : 0 < length s.words = omega arith in
    let w : View = record me.0 { takes = me.0.takes ++ (word % 65536) ∷ [] } in
    let same : (f : Deeds → ℕ) → in_all f (set s.views id w) ≡ in_all f s.views = quiet devices id me w s kept at refl in
    let kernel : me.0 ≡ kept.kernel = kernels_view devices kept.seat kept.kernel s.views kept.seated id me.0 at is_kernel in
    let balanced : IsBalanced me.0.takes word s.views = subst (λ (v : View). IsBalanced v.takes word s.views) (sym kernel) kept.balanced in (
      w,
      keeps,
      tt,
      record {
        seat = kept.seat;
        kernel = w;
        five = length-set s.words 0 new ∙ kept.five;
        seated = kernel_steps devices kept.seat kept.kernel s.views kept.seated id me.0 at w is_kernel is_kernel refl (λ d. refl);
        balanced = subst (λ x. IsBalanced w.takes x (set s.views id w)) (sym (get_or-set_same s.words 0 new 0 here)) (taken_balances me.0.takes word s.views (set s.views id w) balanced same new is);
        stored = stored_stays s.views (set s.views id w) (λ p x. omega (arith, same (stored p x))) kept.kernel w s.words (set s.words 0 new) (ap (λ (v : View). v.latches) kernel) (ap (λ (v : View). v.latching) kernel) (λ p h. get_or-set_other s.words 0 (p + 1) new 0 (λ e. omega arith)) kept.stored;
        glances = glances_stay s.views (set s.views id w) (λ l n. omega (arith, same (fresh l n))) (λ l n. same (seen l n)) (same missed) kept.glances;
      },
      refl,
    )
