-- A raise keeps the rule: where the line's bit was clear no fresh entry had this line and number, and where it was set one had.
use Rattle.std.proofs.Common.{◌≡◌, ◌≢◌, ◌⊎◌, ℕ, ◌+◌, ◌/◌, ◌^◌, ◌<◌, Bool, false, cond, List, [], ◌∷◌, ◌++◌, length, get_or, set, sym, refl, ap, ◌∙◌, subst, inl, inr, arith, get_or-set_same, get_or-set_other, length-set, count_by}
use Rattle.std.proofs.lemmas.List.{length-map}
use Rattle.std.proofs.lemmas.Nat.Bits.{bit_at-lt}
use Rattle.std.specs.Prelude.{bit_or, nat_lt, not, ◌&&◌, ◌==◌}
use Rattle.std.specs.Int.{bit_at}
use Rattle.std.proofs.lemmas.Bool.Decides.{nat_tests}
use mathlib.Core.Option.{none, some}
use native.Mathlib.Decide.{ℕ_discrete}
use lib.ListN.{get_elem?}
use Rattle.atomic_table.specs.Table.{step, keeps, Allows}
use Rattle.tm_irq.specs.declared.views.Raise.{Raise}
use Rattle.tm_irq.specs.declared.views.Deeds.{Deeds}
use Rattle.tm_irq.specs.declared.views.View.{View}
use Rattle.tm_irq.specs.Views.{is_fresh, is_joined, fresh, joined, stored, seen, missed, of_device, in_all, with_raise}
use Rattle.tm_irq.specs.Rule.{IsDevice, IsBalanced, Keeps, has_line}
use Rattle.tm_irq.specs.Steps.{raise_of, Raises}
use Rattle.tm_irq.proofs.Sums.{all_set, all_same, raised_more, raised_same}
use Rattle.tm_irq.proofs.Bits.{or_small, or_word, or_here, or_else, low_bit, line_here, line_else}
use Rattle.tm_irq.proofs.Seating.{device_steps}
use Rattle.tm_irq.proofs.Storing.{stored_stays}
use Rattle.tm_irq.proofs.Keeping.{Mine, glances_stay}

raised_device : (r : Raise) (v : View) → IsDevice v → IsDevice (with_raise r v)
raised_device r v d = record {
  kernel = d.kernel;
  takes = d.takes;
  latches = d.latches;
  latching = d.latching;
  deeds = let e = d.deeds in omega (arith, length-map v.deeds (λ (e : Deeds). record e { raises = e.raises ++ r ∷ [] }));
}

-- whether an entry counts as a fresh or a joined raise of a line with a number
entry_else : (line l number n : ℕ) (t : Bool) → (number ≢ n) ⊎ (line ≢ l) → cond {A = ℕ} ((line == l) && (number == n) && t) 1 0 ≡ 0
entry_else line l number n t ne = grind (arith, nat_tests)

entry_fresh : (line l number n bit : ℕ) → line ≡ l → number ≡ n → bit < 2 → cond {A = ℕ} ((line == l) && (number == n) && not (bit == 1)) 1 0 + bit ≡ 1
entry_fresh line l number n bit e f h = grind (arith, nat_tests)

not_late : (n number : ℕ) → number ≡ n → cond {A = ℕ} (nat_lt n number) 1 0 ≡ 0
not_late n number e = grind (arith, nat_tests)

-- a raise keeps the balance
module _ (takes : List ℕ) (word : ℕ) (views : List View) (b : IsBalanced takes word views) (id : ℕ) (v : View) (d : Deeds) (at : get_elem? views id ≡ some v) (single : v.deeds ≡ d ∷ []) (line : ℕ) (within : line < 16) where
  abbrev entry : Raise
  entry = raise_of line word

  abbrev raised : View
  raised = with_raise entry v

  abbrev after : List View
  after = set views id raised

  number_is : word / 65536 ≡ length takes
  number_is = let p = b.parts in let l = b.lines in omega arith

  bit_is : bit_at word line ≡ bit_at b.pending line
  bit_is = ap (λ w. bit_at w line) b.parts ∙ low_bit b.pending (length takes) line within

  more : (p : Raise → Bool) → in_all (λ e. count_by p e.raises) after ≡ in_all (λ e. count_by p e.raises) views + cond (p entry) 1 0
  more p = all_set (λ e. count_by p e.raises) views id v raised (cond (p entry) 1 0) at (raised_more p entry v d single)

  abbrev pending' : ℕ
  pending' = bit_or b.pending (2 ^ line)

  -- another number, another line, and the raise's own
  fresh_when : (l n : ℕ) → Dec (n ≡ length takes) → Dec (l ≡ line) → in_all (fresh l n) after ≡ has_line takes pending' n l
  fresh_when l n (no ne) same =
      let none : cond {A = ℕ} (is_fresh l n entry) 1 0 ≡ 0 = entry_else line l (word / 65536) n (not (bit_at word line == 1)) (inl (λ e. ne (sym e ∙ number_is))) in
      more (is_fresh l n) ∙ omega (arith, none) ∙ b.one_fresh l n ∙ line_else takes b.pending pending' n l ne
  fresh_when l n (yes e) (no ne) =
      let none : cond {A = ℕ} (is_fresh l n entry) 1 0 ≡ 0 = entry_else line l (word / 65536) n (not (bit_at word line == 1)) (inr (λ same. ne (sym same))) in
      let bit : bit_at pending' l ≡ bit_at b.pending l = or_else b.pending line l ne in
      let old : has_line takes b.pending n l ≡ bit_at b.pending l = ap (λ k. has_line takes b.pending k l) e ∙ line_here takes b.pending l in
      let new : has_line takes pending' n l ≡ bit_at pending' l = ap (λ k. has_line takes pending' k l) e ∙ line_here takes pending' l in
      more (is_fresh l n) ∙ omega (arith, none) ∙ b.one_fresh l n ∙ old ∙ sym bit ∙ sym new
  fresh_when l n (yes e) (yes same) =
      let one : cond {A = ℕ} (is_fresh l n entry) 1 0 + bit_at word line ≡ 1 = entry_fresh line l (word / 65536) n (bit_at word line) (sym same) (number_is ∙ sym e) (bit_at-lt word line) in
      let old : has_line takes b.pending n l ≡ bit_at word line = ap (λ k. has_line takes b.pending k l) e ∙ line_here takes b.pending l ∙ ap (bit_at b.pending) same ∙ sym bit_is in
      let new : has_line takes pending' n l ≡ 1 = ap (λ k. has_line takes pending' k l) e ∙ line_here takes pending' l ∙ ap (bit_at pending') same ∙ or_here b.pending line in
      let before : in_all (fresh l n) views ≡ has_line takes b.pending n l = b.one_fresh l n in
      omega (arith, more (is_fresh l n), one, old, new, before)

  beside_when : (l n : ℕ) → Dec (n ≡ length takes) → Dec (l ≡ line) → in_all (fresh l n) after ≡ 0 → in_all (joined l n) after ≡ 0
  beside_when l n (no ne) same none_fresh =
      let none : cond {A = ℕ} (is_joined l n entry) 1 0 ≡ 0 = entry_else line l (word / 65536) n (bit_at word line == 1) (inl (λ e. ne (sym e ∙ number_is))) in
      let before : in_all (fresh l n) views ≡ 0 = omega (arith, more (is_fresh l n), none_fresh) in
      omega (arith, more (is_joined l n), none, b.beside l n before)
  beside_when l n (yes e) (no ne) none_fresh =
      let none : cond {A = ℕ} (is_joined l n entry) 1 0 ≡ 0 = entry_else line l (word / 65536) n (bit_at word line == 1) (inr (λ same. ne (sym same))) in
      let before : in_all (fresh l n) views ≡ 0 = omega (arith, more (is_fresh l n), none_fresh) in
      omega (arith, more (is_joined l n), none, b.beside l n before)
  beside_when l n (yes e) (yes same) none_fresh =
      let new : has_line takes pending' n l ≡ 1 = ap (λ k. has_line takes pending' k l) e ∙ line_here takes pending' l ∙ ap (bit_at pending') same ∙ or_here b.pending line in
      absurd (omega (arith, fresh_when l n (yes e) (yes same), new, none_fresh))

  raise_balances : IsBalanced takes (bit_or word (2 ^ line)) after
  raise_balances = record {
    pending = pending';
    lines = or_small b.pending line b.lines within;
    parts = ap (λ w. bit_or w (2 ^ line)) b.parts ∙ or_word b.pending (length takes) line b.lines within;
    one_fresh = λ l n. fresh_when l n (ℕ_discrete n (length takes)) (ℕ_discrete l line);
    beside = λ l n. beside_when l n (ℕ_discrete n (length takes)) (ℕ_discrete l line);
    numbers =
        let none : cond {A = ℕ} (nat_lt (length takes) (word / 65536)) 1 0 ≡ 0 = not_late (length takes) (word / 65536) number_is in
        omega (arith, more (λ r. nat_lt (length takes) r.number), none, b.numbers);
  }

-- a raise
pub raises_at : (devices slots id : ℕ) (me : Mine) (line : ℕ) → line < 16 → me.0.kernel ≡ false → (d : Deeds) → me.0.deeds ≡ d ∷ []
    → Allows (Keeps devices) slots id me 0 (λ n. bit_or n (2 ^ line)) (Raises (step slots 0 (2 ^ line) 0 none) me)
raises_at devices slots id me line within not_kernel d single s kept wide at small =
    let five = kept.five in
    let word : ℕ = get_or s.words 0 0 in
    let here : 0 < length s.words = omega arith in
    let r : Raise = raise_of line word in
    let w : View = with_raise r me.0 in
    let same : (f : Deeds → ℕ) → ((e : Deeds) → f (record e { raises = e.raises ++ r ∷ [] }) ≡ f e) → in_all f (set s.views id w) ≡ in_all f s.views = λ f e. all_same f s.views id me.0 w at (raised_same f r me.0 e) in
    let more : (p : Raise → Bool) → in_all (λ e. count_by p e.raises) (set s.views id w) ≡ in_all (λ e. count_by p e.raises) s.views + cond (p r) 1 0 = λ p. all_set (λ e. count_by p e.raises) s.views id me.0 w (cond (p r) 1 0) at (raised_more p r me.0 d single) in (
      w,
      keeps,
      tt,
      record {
        seat = kept.seat;
        kernel = kept.kernel;
        five = length-set s.words 0 (bit_or word (2 ^ line)) ∙ kept.five;
        seated = device_steps devices kept.seat kept.kernel s.views kept.seated id me.0 at w not_kernel (raised_device r me.0) (λ k. raised_same (of_device k) r me.0 (λ e. refl));
        balanced = subst (λ x. IsBalanced kept.kernel.takes x (set s.views id w)) (sym (get_or-set_same s.words 0 (bit_or word (2 ^ line)) 0 here)) (raise_balances kept.kernel.takes word s.views kept.balanced id me.0 d at single line within);
        stored = stored_stays s.views (set s.views id w) (λ p x. omega (arith, same (stored p x) (λ e. refl))) kept.kernel kept.kernel s.words (set s.words 0 (bit_or word (2 ^ line))) refl refl (λ p h. get_or-set_other s.words 0 (p + 1) (bit_or word (2 ^ line)) 0 (λ e. omega arith)) kept.stored;
        glances = glances_stay s.views (set s.views id w) (λ l n. omega (arith, more (is_fresh l n))) (λ l n. same (seen l n) (λ e. refl)) (same missed (λ e. refl)) kept.glances;
      },
      (line, refl, refl),
    )

-- with the bit as the code has it
pub raises_by : (devices slots id : ℕ) (me : Mine) (line bit : ℕ) → bit ≡ 2 ^ line → line < 16 → me.0.kernel ≡ false → (d : Deeds) → me.0.deeds ≡ d ∷ []
    → Allows (Keeps devices) slots id me 0 (λ n. bit_or n bit) (Raises (step slots 0 bit 0 none) me)
raises_by devices slots id me line bit is within not_kernel d single =
    let P : ℕ → Type 0 = λ x. Allows (Keeps devices) slots id me 0 (λ n. bit_or n x) (Raises (step slots 0 x 0 none) me) in
    subst P (sym is) (raises_at devices slots id me line within not_kernel d single)
