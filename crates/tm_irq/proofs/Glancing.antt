-- A glance keeps the rule: what it finds pends, so each of its lines has a fresh raise with the number of takes, and
-- what its device raised with this number pends too.
use Rattle.std.proofs.Common.{◌≡◌, ◌≢◌, ℕ, ◌+◌, ◌/◌, ◌%◌, ◌<◌, ◌≤◌, Bool, true, false, cond, List, [], ◌∷◌, ◌++◌, length, get_or, set, sum_by, count_by, sym, refl, ap, ◌∙◌, subst, arith}
use Rattle.std.proofs.lemmas.List.{length-map}
use Rattle.std.proofs.lemmas.List.Sums.{sum_by-cons}
use Rattle.std.proofs.lemmas.Nat.Bits.{bit_at-lt}
use Rattle.std.specs.Prelude.{not, ◌&&◌, ◌==◌}
use Rattle.std.specs.Int.{bit_at}
use Rattle.std.proofs.lemmas.Bool.Decides.{nat_tests}
use mathlib.Core.Option.{none, some}
use native.Mathlib.Decide.{ℕ_discrete}
use lib.ListN.{get_elem?}
use Rattle.atomic_table.specs.Table.{step, keeps, Allows}
use Rattle.tm_irq.specs.declared.views.Raise.{Raise}
use Rattle.tm_irq.specs.declared.views.Deeds.{Deeds}
use Rattle.tm_irq.specs.declared.views.View.{View}
use Rattle.tm_irq.specs.Views.{is_fresh, is_joined, is_missed, is_seen, fresh, joined, seen, missed, missed_by, stored, of_device, in_view, in_all, glance_of, with_glance}
use Rattle.tm_irq.specs.Rule.{IsDevice, IsBalanced, IsGlanced, Keeps, has_line}
use Rattle.tm_irq.specs.Steps.{Glances}
use Rattle.tm_irq.proofs.Sums.{all_set, all_same, sum_at, glanced_more, glanced_same}
use Rattle.tm_irq.proofs.Bits.{line_here}
use Rattle.tm_irq.proofs.Seating.{device_steps}
use Rattle.tm_irq.proofs.Storing.{stored_stays}
use Rattle.tm_irq.proofs.Keeping.{Mine, set_back, balance_stays}

glanced_device : (mask number : ℕ) (v : View) → IsDevice v → IsDevice (with_glance mask number v)
glanced_device mask number v d = record {
  kernel = d.kernel;
  takes = d.takes;
  latches = d.latches;
  latching = d.latching;
  deeds = let e = d.deeds in omega (arith, length-map v.deeds (λ (e : Deeds). record e { glances = e.glances ++ glance_of mask number e ∷ [] }));
}

-- a raise that is neither a fresh nor a joined one of its line with the number hasn't the number
missed_when : (line n number bit : ℕ) (is_joined : Bool) → bit < 2 → Dec (bit ≡ 0)
    → (bit ≡ 0 → cond {A = ℕ} ((line == line) && (n == number) && not is_joined) 1 0 + cond {A = ℕ} ((line == line) && (n == number) && is_joined) 1 0 ≡ 0)
    → cond {A = ℕ} ((n == number) && not (bit == 1)) 1 0 ≡ 0
missed_when line n number bit true small (yes e) none_here = let z = none_here e in grind (arith, nat_tests)
missed_when line n number bit false small (yes e) none_here = let z = none_here e in grind (arith, nat_tests)
missed_when line n number bit is_joined small (no ne) none_here = grind (arith, nat_tests)

-- where a line that isn't in the mask has no raise with the number, none is missed
none_missed : (mask number : ℕ) (rs : List Raise) → ((line : ℕ) → bit_at mask line ≡ 0 → count_by (is_fresh line number) rs + count_by (is_joined line number) rs ≡ 0) → count_by (is_missed mask number) rs ≡ 0
none_missed mask number [] none_there = refl
none_missed mask number (r ∷ rs) none_there =
    let fresh_parts : (line : ℕ) → count_by (is_fresh line number) (r ∷ rs) ≡ cond (is_fresh line number r) 1 0 + count_by (is_fresh line number) rs = λ line. sum_by-cons (λ (x : Raise). cond (is_fresh line number x) 1 0) r rs in
    let joined_parts : (line : ℕ) → count_by (is_joined line number) (r ∷ rs) ≡ cond (is_joined line number r) 1 0 + count_by (is_joined line number) rs = λ line. sum_by-cons (λ (x : Raise). cond (is_joined line number x) 1 0) r rs in
    let first : cond {A = ℕ} (is_missed mask number r) 1 0 ≡ 0 = missed_when r.line r.number number (bit_at mask r.line) r.joined (bit_at-lt mask r.line) (ℕ_discrete (bit_at mask r.line) 0)
    (λ clear. omega (arith, none_there r.line clear, fresh_parts r.line, joined_parts r.line)) in
    let rest : count_by (is_missed mask number) rs ≡ 0 = none_missed mask number rs (λ line clear. omega (arith, none_there line clear, fresh_parts line, joined_parts line)) in
    omega (arith, sum_by-cons (λ (x : Raise). cond (is_missed mask number x) 1 0) r rs, first, rest)

unseen_else : (n number bit : ℕ) → n ≢ number → cond {A = ℕ} ((n == number) && (bit == 1)) 1 0 ≡ 0
unseen_else n number bit ne = grind (arith, nat_tests)

unseen_clear : (n number bit : ℕ) → bit ≡ 0 → cond {A = ℕ} ((n == number) && (bit == 1)) 1 0 ≡ 0
unseen_clear n number bit e = grind (arith, nat_tests)

-- a glance of a word in balance
module _ (takes : List ℕ) (word : ℕ) (views : List View) (b : IsBalanced takes word views) (id : ℕ) (v : View) (d : Deeds) (at : get_elem? views id ≡ some v) (single : v.deeds ≡ d ∷ []) where
  abbrev mask : ℕ
  mask = word % 65536

  abbrev number : ℕ
  number = word / 65536

  abbrev after : List View
  after = set views id (with_glance mask number v)

  number_is : number ≡ length takes
  number_is = let p = b.parts in let l = b.lines in omega arith

  mask_is : mask ≡ b.pending
  mask_is = let p = b.parts in let l = b.lines in omega arith

  -- the fresh raises with the number of takes are the lines of the mask
  fresh_now : (line n : ℕ) → n ≡ length takes → in_all (fresh line n) views ≡ bit_at mask line
  fresh_now line n e = b.one_fresh line n ∙ ap (λ k. has_line takes b.pending k line) e ∙ line_here takes b.pending line ∙ ap (λ m. bit_at m line) (sym mask_is)

  own_part : (f : Deeds → ℕ) → f d ≤ in_all f views
  own_part f =
      let here : in_view f v ≡ f d = ap (sum_by f) single ∙ omega arith in
      omega (arith, sum_at (in_view f) views id v at, here)

  none_own : missed_by (glance_of mask number d) ≡ 0
  none_own = none_missed mask number d.raises (λ line clear.
      let none_fresh : in_all (fresh line number) views ≡ 0 = fresh_now line number number_is ∙ clear in
      omega (arith, none_fresh, b.beside line number none_fresh, own_part (fresh line number), own_part (joined line number)))

  unseen : (line n : ℕ) → Dec (number ≡ n) → in_all (fresh line n) views ≡ 0 → cond {A = ℕ} (is_seen line n (glance_of mask number d)) 1 0 ≡ 0
  unseen line n (yes e) none_fresh = unseen_clear number n (bit_at mask line) (sym (fresh_now line n (sym e ∙ number_is)) ∙ none_fresh)
  unseen line n (no ne) none_fresh = unseen_else number n (bit_at mask line) ne

  same : (f : Deeds → ℕ) → ((e : Deeds) → f (record e { glances = e.glances ++ glance_of mask number e ∷ [] }) ≡ f e) → in_all f after ≡ in_all f views
  same f e = all_same f views id v (with_glance mask number v) at (glanced_same f mask number v e)

  pub glance_is_true : IsGlanced views → IsGlanced after
  glance_is_true g = record {
    found = λ l n none_fresh.
        let before : in_all (fresh l n) views ≡ 0 = sym (same (fresh l n) (λ e. refl)) ∙ none_fresh in
        let more : in_all (seen l n) after ≡ in_all (seen l n) views + cond (is_seen l n (glance_of mask number d)) 1 0 =
        all_set (seen l n) views id v (with_glance mask number v) (cond (is_seen l n (glance_of mask number d)) 1 0) at (glanced_more (λ x. cond (is_seen l n x) 1 0) mask number v d single) in
        omega (arith, more, g.found l n before, unseen l n (ℕ_discrete number n) before);
    own =
        let more : in_all missed after ≡ in_all missed views + missed_by (glance_of mask number d) =
        all_set missed views id v (with_glance mask number v) (missed_by (glance_of mask number d)) at (glanced_more missed_by mask number v d single) in
        omega (arith, more, g.own, none_own);
  }

-- a glance
pub glances_at : (devices slots id : ℕ) (me : Mine) → me.0.kernel ≡ false → (d : Deeds) → me.0.deeds ≡ d ∷ []
    → Allows (Keeps devices) slots id me 0 (λ n. n) (Glances (step slots 0 0 0 none) me)
glances_at devices slots id me not_kernel d single s kept wide at small =
    let word : ℕ = get_or s.words 0 0 in
    let w : View = with_glance (word % 65536) (word / 65536) me.0 in
    let after : List View = set s.views id w in
    let same : (f : Deeds → ℕ) → ((e : Deeds) → f (record e { glances = e.glances ++ glance_of (word % 65536) (word / 65536) e ∷ [] }) ≡ f e) → in_all f after ≡ in_all f s.views = λ f e. all_same f s.views id me.0 w at (glanced_same f (word % 65536) (word / 65536) me.0 e) in
    let P : List ℕ → Type 0 = λ words. Keeps devices (record { words = words; homes = s.homes; views = after }) in (
      w,
      keeps,
      tt,
      subst P (sym (set_back s.words 0)) (record {
        seat = kept.seat;
        kernel = kept.kernel;
        five = kept.five;
        seated = device_steps devices kept.seat kept.kernel s.views kept.seated id me.0 at w not_kernel (glanced_device (word % 65536) (word / 65536) me.0) (λ k. glanced_same (of_device k) (word % 65536) (word / 65536) me.0 (λ e. refl));
        balanced = balance_stays kept.kernel.takes word s.views after (λ p. same (λ e. count_by p e.raises) (λ e. refl)) kept.balanced;
        stored = stored_stays s.views after (λ p x. omega (arith, same (stored p x) (λ e. refl))) kept.kernel kept.kernel s.words s.words refl refl (λ p h. refl) kept.stored;
        glances = glance_is_true kept.kernel.takes word s.views kept.balanced id me.0 d at single kept.glances;
      }),
      refl,
    )
