-- Every raise of a line joined another, was taken, or pends.
use Rattle.std.proofs.Common.{◌≡◌, ℕ, zero, suc, ◌+◌, Bool, true, false, cond, List, [], ◌∷◌, ◌++◌, length, get_or, sum_by, count_by, sym, refl, ap, ap₂, ◌∙◌, arith, length-append}
use Rattle.std.specs.Prelude.{nat_lt, not, ◌&&◌, ◌==◌}
use Rattle.std.specs.Int.{bit_at}
use Rattle.std.proofs.lemmas.Bool.Decides.{nat_tests}
use Rattle.std.proofs.lemmas.List.Sums.{sum_by-cons, sum_by_push}
use Rattle.tm_irq.specs.declared.views.Raise.{Raise}
use Rattle.tm_irq.specs.declared.views.Deeds.{Deeds}
use Rattle.tm_irq.specs.declared.views.View.{View}
use Rattle.std.proofs.lemmas.Nat.Bits.{bit_at-lt}
use Rattle.tm_irq.specs.Views.{is_fresh, fresh, late, in_view, in_all}
use Rattle.tm_irq.specs.Rule.{has_line}
use Rattle.tm_irq.specs.Tallies.{raises_on, joins_on, fresh_on, takes_on}
use Rattle.tm_irq.proofs.Bits.{line_here, low_bit}
use Rattle.tm_irq.specs.Audit.{IsSettled}
use Rattle.tm_irq.specs.Laws.{LinesBalance, OneIsFresh}

-- a number for each number below this one, added up
abbrev upto : ℕ → (ℕ → ℕ) → ℕ
upto zero f = 0
upto (suc n) f = upto n f + f n

upto_same : (n : ℕ) (f g : ℕ → ℕ) → ((k : ℕ) → f k ≡ g k) → upto n f ≡ upto n g
upto_same zero f g same = refl
upto_same (suc n) f g same = ap₂ (λ a b. a + b) (upto_same n f g same) (same n)

upto_zero : (n : ℕ) → upto n (λ k. 0) ≡ 0
upto_zero zero = refl
upto_zero (suc n) = omega (arith, upto_zero n)

upto_sum : (n : ℕ) (f g : ℕ → ℕ) → upto n (λ k. f k + g k) ≡ upto n f + upto n g
upto_sum zero f g = refl
upto_sum (suc n) f g = omega (arith, upto_sum n f g)

upto_front : (n : ℕ) (f : ℕ → ℕ) → upto (suc n) f ≡ f 0 + upto n (λ k. f (suc k))
upto_front zero f = omega arith
upto_front (suc n) f = omega (arith, upto_front n f)

-- over the masks of a list
upto_masks : (masks : List ℕ) (line : ℕ) → upto (length masks) (λ n. bit_at (get_or masks n 0) line) ≡ takes_on masks line
upto_masks [] line = refl
upto_masks (m ∷ ms) line = upto_front (length ms) (λ n. bit_at (get_or (m ∷ ms) n 0) line) ∙ omega (arith, upto_masks ms line, sum_by-cons (λ k. bit_at k line) m ms)

one_none : (number : ℕ) (a t : Bool) → 0 ≡ cond {A = ℕ} (a && nat_lt number 0 && t) 1 0
one_none number a t = grind (arith, nat_tests)

one_more : (n number before : ℕ) (a t : Bool) → before ≡ cond (a && nat_lt number n && t) 1 0 → before + cond (a && (number == n) && t) 1 0 ≡ cond (a && nat_lt number (suc n) && t) 1 0
one_more n number before a t e = grind (arith, nat_tests)

-- an entry counts at its own number
upto_one : (n number : ℕ) (a t : Bool) → upto n (λ k. cond (a && (number == k) && t) 1 0) ≡ cond (a && nat_lt number n && t) 1 0
upto_one zero number a t = one_none number a t
upto_one (suc n) number a t = one_more n number (upto n (λ k. cond (a && (number == k) && t) 1 0)) a t (upto_one n number a t)

one_entry : (takes number : ℕ) (a j : Bool) → cond {A = ℕ} (nat_lt takes number) 1 0 ≡ 0 → cond {A = ℕ} (a && not j) 1 0 ≡ cond (a && nat_lt number (suc takes) && not j) 1 0
one_entry takes number a j early = grind (arith, nat_tests)

-- what splits by number in each part of a list splits so in the whole
module _ {A : Type 0} (n : ℕ) (whole late : A → ℕ) (part : ℕ → A → ℕ) (each : (x : A) → late x ≡ 0 → whole x ≡ upto n (λ k. part k x)) where
  by_number : (xs : List A) → sum_by late xs ≡ 0 → sum_by whole xs ≡ upto n (λ k. sum_by (part k) xs)
  by_number [] early = sym (upto_zero n)
  by_number (x ∷ xs) early =
      let c = sum_by-cons late x xs in
      let first = each x (omega arith) in
      let rest = by_number xs (omega arith) in
      let split = upto_same n (λ k. sum_by (part k) (x ∷ xs)) (λ k. part k x + sum_by (part k) xs) (λ k. sum_by-cons (part k) x xs) ∙ upto_sum n (λ k. part k x) (λ k. sum_by (part k) xs) in
      omega (arith, sum_by-cons whole x xs)

-- the fresh raises of a line, by their numbers: in a list, in the deeds of some devices, and in all views
raises_by : (takes line : ℕ) (rs : List Raise) → count_by (λ r. nat_lt takes r.number) rs ≡ 0 → count_by (λ r. (r.line == line) && not r.joined) rs ≡ upto (suc takes) (λ n. count_by (is_fresh line n) rs)
raises_by takes line =
    by_number (suc takes) (λ (r : Raise). cond ((r.line == line) && not r.joined) 1 0) (λ r. cond (nat_lt takes r.number) 1 0) (λ n r. cond (is_fresh line n r) 1 0)
    (λ r early. one_entry takes r.number (r.line == line) r.joined early ∙ sym (upto_one (suc takes) r.number (r.line == line) (not r.joined)))

deeds_by : (takes line : ℕ) (ds : List Deeds) → sum_by (late takes) ds ≡ 0 → sum_by (fresh_on line) ds ≡ upto (suc takes) (λ n. sum_by (fresh line n) ds)
deeds_by takes line = by_number (suc takes) (fresh_on line) (late takes) (fresh line) (λ d early. raises_by takes line d.raises early)

views_by : (takes line : ℕ) (views : List View) → in_all (late takes) views ≡ 0 → in_all (fresh_on line) views ≡ upto (suc takes) (λ n. in_all (fresh line n) views)
views_by takes line = by_number (suc takes) (in_view (fresh_on line)) (in_view (late takes)) (λ n. in_view (fresh line n)) (λ v early. deeds_by takes line v.deeds early)

-- the masks of all takes and of the bits that pend have a line so often
masks_by : (takes : List ℕ) (pending line : ℕ) (fresh_of : ℕ → ℕ) → ((n : ℕ) → fresh_of n ≡ has_line takes pending n line) → upto (suc (length takes)) fresh_of ≡ takes_on takes line + bit_at pending line
masks_by takes pending line fresh_of is =
    let masks : List ℕ = takes ++ pending ∷ [] in
    let size : length masks ≡ suc (length takes) = omega (arith, length-append takes (pending ∷ [])) in
    upto_same (suc (length takes)) fresh_of (λ n. bit_at (get_or masks n 0) line) is
    ∙ ap (λ k. upto k (λ n. bit_at (get_or masks n 0) line)) (sym size)
    ∙ upto_masks masks line
    ∙ sum_by_push (λ m. bit_at m line) takes pending

-- a raise is joined or fresh
one_kind : (a j : Bool) → cond {A = ℕ} a 1 0 ≡ cond (a && j) 1 0 + cond (a && not j) 1 0
one_kind true true = refl
one_kind true false = refl
one_kind false j = refl

both_kinds : (line : ℕ) (rs : List Raise) → count_by (λ r. r.line == line) rs ≡ count_by (λ r. (r.line == line) && r.joined) rs + count_by (λ r. (r.line == line) && not r.joined) rs
both_kinds line [] = refl
both_kinds line (r ∷ rs) =
    let one = one_kind (r.line == line) r.joined in
    let rest = both_kinds line rs in
    omega (arith, sum_by-cons (λ (x : Raise). cond (x.line == line) 1 0) r rs, sum_by-cons (λ (x : Raise). cond ((x.line == line) && x.joined) 1 0) r rs, sum_by-cons (λ (x : Raise). cond ((x.line == line) && not x.joined) 1 0) r rs)

deeds_kinds : (line : ℕ) (ds : List Deeds) → sum_by (raises_on line) ds ≡ sum_by (joins_on line) ds + sum_by (fresh_on line) ds
deeds_kinds line [] = refl
deeds_kinds line (d ∷ ds) =
    let one = both_kinds line d.raises in
    let rest = deeds_kinds line ds in
    omega (arith, sum_by-cons (raises_on line) d ds, sum_by-cons (joins_on line) d ds, sum_by-cons (fresh_on line) d ds)

-- the balance of a line: its raises are those that joined, those that were taken and the one that pends
pub balances : (takes : List ℕ) (latches : List (List ℕ)) (deeds : List Deeds) (pending line : ℕ) → IsSettled takes latches deeds pending
    → sum_by (raises_on line) deeds ≡ sum_by (joins_on line) deeds + takes_on takes line + sum_by (fresh line (length takes)) deeds
balances takes latches deeds pending line s =
    let last = s.one_fresh line (length takes) ∙ line_here takes pending line in
    let fresh_sum = deeds_by (length takes) line deeds s.numbers ∙ masks_by takes pending line (λ n. sum_by (fresh line n) deeds) (λ n. s.one_fresh line n) in
    let kinds = deeds_kinds line deeds in
    omega arith

-- between any two steps
pub lines_balance : LinesBalance
lines_balance devices s kept line within =
    let b = kept.balanced in
    let takes : List ℕ = kept.kernel.takes in
    views_by (length takes) line s.views b.numbers
    ∙ masks_by takes b.pending line (λ n. in_all (fresh line n) s.views) (λ n. b.one_fresh line n)
    ∙ ap (λ bit. takes_on takes line + bit) (sym (ap (λ w. bit_at w line) b.parts ∙ low_bit b.pending (length takes) line within))

pub one_is_fresh : OneIsFresh
one_is_fresh devices s kept line number = omega (arith, kept.balanced.one_fresh line number, bit_at-lt (get_or (kept.kernel.takes ++ kept.balanced.pending ∷ []) number 0) line)
