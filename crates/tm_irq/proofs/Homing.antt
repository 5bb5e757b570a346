-- A device's seat is made and comes home: each device has its one place, and the sums over all views stay.
use Rattle.std.proofs.Common.{◌≡◌, ◌≢◌, ℕ, zero, suc, ◌+◌, true, cond, List, [], ◌∷◌, ◌++◌, get_or, set, map, sum_by, count_by, sym, refl, ap, ◌∙◌, subst, inl, ⊎_elim, arith, replicate}
use Rattle.std.specs.Prelude.{nat_lt, ◌==◌}
use Rattle.std.specs.List.{range_with_len}
use Rattle.std.proofs.lemmas.Bool.Decides.{nat_tests}
use Rattle.std.proofs.lemmas.List.Sums.{sum_by-cons, sum_by-append, sum_by_push}
use Rattle.std.proofs.lemmas.List.Elements.{All-nil}
use Rattle.std.proofs.lemmas.Nat.Bits.{bit_at-zero}
use mathlib.Core.Option.{some, some-ne-none}
use lib.ListN.{get_elem?}
use Rattle.atomic_table.specs.Table.{Splits, Joins, opening}
use Rattle.atomic_table.proofs.Lists.{at_set, at_snoc, at_longer, set_here, set_else}
use Rattle.tm_irq.specs.declared.views.Deeds.{Deeds}
use Rattle.tm_irq.specs.declared.views.View.{View}
use Rattle.tm_irq.specs.Views.{fresh, joined, late, stored, seen, missed, of_device, in_view, in_all, no_deeds, device_view, spent_view, kernel_view, homes, without_first, only_first, with_home}
use Rattle.tm_irq.specs.Rule.{Board, IsDevice, IsSeated, IsBalanced, Keeps, has_line}
use Rattle.tm_irq.proofs.Sums.{sum_set}
use Rattle.tm_irq.proofs.Seating.{there_within, kernels_seat, kernels_view, others_stay}
use Rattle.tm_irq.proofs.Storing.{stored_stays}
use Rattle.tm_irq.proofs.Keeping.{balance_stays, glances_stay}

-- where every sum stays, so does the rule, but for who sits where
module _ (devices : ℕ) (s : Board) (kept : Keeps devices s) (after : List View) (w : View) (same : (f : Deeds → ℕ) → in_all f after ≡ in_all f s.views) where
  pub moved : w.takes ≡ kept.kernel.takes → w.latches ≡ kept.kernel.latches → w.latching ≡ kept.kernel.latching → IsSeated devices kept.seat w after
      → Keeps devices (record { words = s.words; homes = s.homes; views = after })
  moved takes latches latching seated = record {
    seat = kept.seat;
    kernel = w;
    five = kept.five;
    seated = seated;
    balanced = subst (λ ts. IsBalanced ts (get_or s.words 0 0) after) (sym takes) (balance_stays kept.kernel.takes (get_or s.words 0 0) s.views after (λ p. same (λ d. count_by p d.raises)) kept.balanced);
    stored = stored_stays s.views after (λ p x. omega (arith, same (stored p x))) kept.kernel w s.words s.words latches latching (λ p h. refl) kept.stored;
    glances = glances_stay s.views after (λ l n. omega (arith, same (fresh l n))) (λ l n. same (seen l n)) (same missed) kept.glances;
  }

one_device : (d : Deeds) → IsDevice (device_view (d ∷ []))
one_device d = record { kernel = refl; takes = refl; latches = refl; latching = refl; deeds = omega arith }

spent : IsDevice spent_view
spent = record { kernel = refl; takes = refl; latches = refl; latching = refl; deeds = omega arith }

-- a split
module _ (devices id : ℕ) (v : View) (d : Deeds) (ds : List Deeds) (is_kernel : v.kernel ≡ true) (deeds : v.deeds ≡ d ∷ ds) (s : Board) (kept : Keeps devices s) (at : get_elem? s.views id ≡ some v) where
  abbrev left : View
  left = record v { deeds = ds }

  abbrev right : View
  right = device_view (d ∷ [])

  abbrev after : List View
  after = set s.views id left ++ right ∷ []

  split_sums : (f : Deeds → ℕ) → in_all f after ≡ in_all f s.views
  split_sums f =
      let whole : in_view f v ≡ f d + in_view f left = ap (sum_by f) deeds ∙ sum_by-cons f d ds in
      let part : in_view f right ≡ f d = omega arith in
      omega (arith, sum_by_push (in_view f) (set s.views id left) right, sum_set (in_view f) s.views id v left at, whole, part)

  split_seated : IsSeated devices kept.seat left after
  split_seated =
      let here = kernels_seat devices kept.seat kept.kernel s.views kept.seated id v at is_kernel in
      let first : get_elem? (set s.views id left) kept.seat ≡ some left = subst (λ (i : ℕ). get_elem? (set s.views id left) i ≡ some left) here (set_here s.views id left (there_within s.views id v at)) in record {
        there = at_longer (set s.views id left) (right ∷ []) kept.seat left first;
        is_kernel = is_kernel;
        knows = ap (λ (u : View). u.devices) (kernels_view devices kept.seat kept.kernel s.views kept.seated id v at is_kernel) ∙ kept.seated.knows;
        others = λ j u get ne. ⊎_elim
            (λ old. others_stay devices kept.seat kept.kernel s.views kept.seated id v at left (λ away. absurd (away here)) j u old ne)
            (λ new. subst IsDevice new (one_device d))
            (at_snoc (set s.views id left) right u j get);
        places = λ k. split_sums (of_device k) ∙ kept.seated.places k;
      }

  pub split_keeps : Keeps devices (record { words = s.words; homes = s.homes; views = after })
  split_keeps =
      let kernel = kernels_view devices kept.seat kept.kernel s.views kept.seated id v at is_kernel in
      moved devices s kept after left split_sums (ap (λ (u : View). u.takes) kernel) (ap (λ (u : View). u.latches) kernel) (ap (λ (u : View). u.latching) kernel) split_seated

pub splits_at : (devices id : ℕ) (v : View) (d : Deeds) (ds : List Deeds) → v.kernel ≡ true → v.deeds ≡ d ∷ ds → Splits (Keeps devices) id v (without_first v) (only_first v)
splits_at devices id v d ds is_kernel deeds s kept at =
    let P : List Deeds → Type 0 = λ es. Keeps devices (record { words = s.words; homes = s.homes; views = set s.views id (without_first (record v { deeds = es })) ++ only_first (record v { deeds = es }) ∷ [] }) in
    subst P (sym deeds) (split_keeps devices id v d ds is_kernel deeds s kept at)

-- a join
module _ (devices id : ℕ) (v : View) (other : ℕ) (w : View) (is_kernel : v.kernel ≡ true) (s : Board) (kept : Keeps devices s) (at : get_elem? s.views id ≡ some v) (away : ¬ (other ≡ id))
    (there : get_elem? (set s.views id (with_home v w)) other ≡ some w) where
  abbrev both : View
  both = with_home v w

  abbrev joined_views : List View
  joined_views = set (set s.views id both) other spent_view

  join_sums : (f : Deeds → ℕ) → in_all f joined_views ≡ in_all f s.views
  join_sums f =
      let none : in_view f spent_view ≡ 0 = refl in
      omega (arith, sum_set (in_view f) s.views id v both at, sum_set (in_view f) (set s.views id both) other w spent_view there, sum_by-append f w.deeds v.deeds, none)

  join_seated : IsSeated devices kept.seat both joined_views
  join_seated =
      let here = kernels_seat devices kept.seat kept.kernel s.views kept.seated id v at is_kernel in
      let first : get_elem? (set s.views id both) kept.seat ≡ some both = subst (λ (i : ℕ). get_elem? (set s.views id both) i ≡ some both) here (set_here s.views id both (there_within s.views id v at)) in record {
        there = set_else (set s.views id both) other kept.seat spent_view (λ e. away (sym e ∙ sym here)) ∙ first;
        is_kernel = is_kernel;
        knows = ap (λ (u : View). u.devices) (kernels_view devices kept.seat kept.kernel s.views kept.seated id v at is_kernel) ∙ kept.seated.knows;
        others = λ j u get ne. ⊎_elim
            (λ t. subst IsDevice t.1 spent)
            (λ t. others_stay devices kept.seat kept.kernel s.views kept.seated id v at both (λ far. absurd (far here)) j u t.1 ne)
            (at_set (set s.views id both) other j spent_view u get);
        places = λ k. join_sums (of_device k) ∙ kept.seated.places k;
      }

  pub join_keeps : Keeps devices (record { words = s.words; homes = s.homes; views = joined_views })
  join_keeps =
      let kernel = kernels_view devices kept.seat kept.kernel s.views kept.seated id v at is_kernel in
      moved devices s kept joined_views both join_sums (ap (λ (u : View). u.takes) kernel) (ap (λ (u : View). u.latches) kernel) (ap (λ (u : View). u.latching) kernel) join_seated

pub joins_at : (devices id : ℕ) (v : View) (other : ℕ) (w : View) → v.kernel ≡ true → Joins (Keeps devices) id v other w (with_home v w) spent_view
joins_at devices id v other w is_kernel s kept at away there = join_keeps devices id v other w is_kernel s kept at away there

pub within_counts : (d a n m : ℕ) → m ≡ cond {A = ℕ} (nat_lt d (a + 1)) 0 (cond (nat_lt d (a + 1 + n)) 1 0) → cond {A = ℕ} (a == d) 1 0 + m ≡ cond {A = ℕ} (nat_lt d a) 0 (cond (nat_lt d (a + suc n)) 1 0)
within_counts d a n m e = grind (arith, nat_tests)

pub none_counts : (d a : ℕ) → 0 ≡ cond {A = ℕ} (nat_lt d a) 0 (cond (nat_lt d (a + 0)) 1 0)
none_counts d a = grind (arith, nat_tests)

-- the devices of a new table are each there once
range_places : (d a n : ℕ) → sum_by (of_device d) (map no_deeds (range_with_len a n)) ≡ cond {A = ℕ} (nat_lt d a) 0 (cond (nat_lt d (a + n)) 1 0)
range_places d a zero = none_counts d a
range_places d a (suc n) = sum_by-cons (of_device d) (no_deeds a) (map no_deeds (range_with_len (a + 1) n)) ∙ within_counts d a n _ (range_places d (a + 1) n)

first_places : (d n : ℕ) → cond {A = ℕ} (nat_lt d 0) 0 (cond (nat_lt d (0 + n)) 1 0) ≡ cond (nat_lt d n) 1 0
first_places d n = grind (arith, nat_tests)

-- and did nothing
none_of : (f : Deeds → ℕ) → ((d : ℕ) → f (no_deeds d) ≡ 0) → (ns : List ℕ) → sum_by f (map no_deeds ns) ≡ 0
none_of f none [] = refl
none_of f none (n ∷ ns) = omega (arith, sum_by-cons f (no_deeds n) (map no_deeds ns), none n, none_of f none ns)

alone : (v : View) (id : ℕ) (u : View) → get_elem? (v ∷ []) id ≡ some u → id ≢ 0 → IsDevice u
alone v zero u get ne = absurd (ne refl)
alone v (suc id) u get ne = absurd (some-ne-none u (sym get))

no_masks : (n line : ℕ) → has_line [] 0 n line ≡ 0
no_masks zero line = bit_at-zero line
no_masks (suc n) line = bit_at-zero line

zeros : (n i : ℕ) → get_or {A = ℕ} (replicate n 0) i 0 ≡ 0
zeros zero i = refl
zeros (suc n) zero = refl
zeros (suc n) (suc i) = zeros n i

-- the rule holds of a new table
pub begins : (devices : ℕ) → Keeps devices (opening (replicate 5 0) [] (kernel_view devices (homes devices)))
begins devices =
    let v : View = kernel_view devices (homes devices) in
    let quiet : (f : Deeds → ℕ) → ((d : ℕ) → f (no_deeds d) ≡ 0) → in_all f (v ∷ []) ≡ 0 = λ f none. omega (arith, none_of f none (range_with_len 0 devices)) in record {
      seat = 0;
      kernel = v;
      five = refl;
      seated = record {
        there = refl;
        is_kernel = refl;
        knows = refl;
        others = alone v;
        places = λ d. (let one : in_all (of_device d) (v ∷ []) ≡ in_view (of_device d) v = omega arith in one) ∙ range_places d 0 devices ∙ first_places d devices;
      };
      balanced = record {
        pending = 0;
        lines = omega arith;
        parts = refl;
        one_fresh = λ l n. quiet (fresh l n) (λ d. refl) ∙ sym (no_masks n l);
        beside = λ l n none_fresh. quiet (joined l n) (λ d. refl);
        numbers = quiet (late 0) (λ d. refl);
      };
      stored = record {
        ports = λ p h. let is : get_or {A = ℕ} (replicate 5 0) (p + 1) 0 ≡ 0 = zeros 5 (p + 1) in (omega (arith, is), inl is);
        latches = All-nil _;
        latching = λ p h. absurd (omega arith);
      };
      glances = record { found = λ l n none_fresh. quiet (seen l n) (λ d. refl); own = quiet missed (λ d. refl) };
    }
