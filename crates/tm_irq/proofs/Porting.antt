-- The steps on ports keep the rule: a value that is stored stands in its view, and a word that is loaded was stored.
use Rattle.std.proofs.Common.{◌≡◌, ℕ, ◌+◌, ◌^◌, ◌<◌, ◌≤◌, Bool, true, false, cond, List, [], ◌∷◌, ◌++◌, length, get_or, set, sym, refl, ap, ◌∙◌, subst, inr, arith, get_or-set_other, length-set, sum_by, count_by}
use Rattle.std.proofs.lemmas.List.{length-map}
use Rattle.std.specs.Prelude.{◌&&◌, ◌==◌}
use Rattle.std.proofs.lemmas.Bool.Decides.{nat_tests}
use mathlib.Core.Option.{none, some}
use Rattle.std.proofs.lemmas.List.Elements.{All-push}
use native.Mathlib.Decide.{ℕ_discrete}
use lib.ListN.{get_elem?}
use Rattle.atomic_table.specs.Table.{step, keeps, stepped, Allows}
use Rattle.tm_irq.specs.declared.views.Store.{Store}
use Rattle.tm_irq.specs.declared.views.Deeds.{Deeds}
use Rattle.tm_irq.specs.declared.views.View.{View}
use Rattle.tm_irq.specs.Views.{is_store, fresh, stored, seen, missed, of_device, in_all, with_store}
use Rattle.tm_irq.specs.Rule.{Board, IsDevice, IsBalanced, WasStored, WereStored, IsStored, Keeps}
use Rattle.tm_irq.specs.Steps.{store_of, Sets, Latches, EndsLatch}
use Rattle.tm_irq.proofs.Sums.{all_set, all_same, stored_more, stored_same}
use Rattle.tm_irq.proofs.Seating.{kernels_view, device_steps, kernel_steps}
use Rattle.tm_irq.proofs.Storing.{was_still, were_still, were_more, latches_still, port_set, stored_stays}
use Rattle.tm_irq.proofs.Keeping.{Mine, set_back, quiet, balance_stays, glances_stay}

-- a step of the kernel's seat that reads a port
module _ (devices id port : ℕ) (me : Mine) (w : View) (s : Board) (kept : Keeps devices s) (at : get_elem? s.views id ≡ some me.0)
    (is_kernel : me.0.kernel ≡ true) (still : w.kernel ≡ true) (knows : w.devices ≡ me.0.devices) (takes : w.takes ≡ me.0.takes) (deeds : w.deeds ≡ me.0.deeds) where
  abbrev after : List View
  after = set s.views id w

  kernel : me.0 ≡ kept.kernel
  kernel = kernels_view devices kept.seat kept.kernel s.views kept.seated id me.0 at is_kernel

  pub reads : IsStored w s.words after → Keeps devices (stepped s (port + 1) (get_or s.words (port + 1) 0) id me.1 w keeps)
  reads stored =
      let P : List ℕ → Type 0 = λ words. Keeps devices (record { words = words; homes = s.homes; views = after }) in
      subst P (sym (set_back s.words (port + 1))) record {
        seat = kept.seat;
        kernel = w;
        five = kept.five;
        seated = kernel_steps devices kept.seat kept.kernel s.views kept.seated id me.0 at w is_kernel still knows (λ d. ap (sum_by (of_device d)) deeds);
        balanced = subst (λ ts. IsBalanced ts (get_or s.words 0 0) after) (ap (λ (v : View). v.takes) (sym kernel) ∙ sym takes)
            (balance_stays kept.kernel.takes (get_or s.words 0 0) s.views after (λ p. quiet devices id me w s kept at deeds (λ d. count_by p d.raises)) kept.balanced);
        stored = stored;
        glances = glances_stay s.views after (λ l n. omega (arith, quiet devices id me w s kept at deeds (fresh l n))) (λ l n. quiet devices id me w s kept at deeds (seen l n)) (quiet devices id me w s kept at deeds missed) kept.glances;
      }

  -- the kernel's latches as they were
  pub read_before : IsStored me.0 s.words after
  read_before = stored_stays s.views after (λ p x. omega (arith, quiet devices id me w s kept at deeds (stored p x))) kept.kernel me.0 s.words s.words (ap (λ (v : View). v.latches) kernel) (ap (λ (v : View). v.latching) kernel) (λ p h. refl) kept.stored

-- a port is loaded for a latch that goes on, and for the end of one
pub latches_at : (devices slots id : ℕ) (me : Mine) (port : ℕ) → port < 4 → me.0.kernel ≡ true → length me.0.latching ≡ port
    → Allows (Keeps devices) slots id me (port + 1) (λ n. n) (Latches (step slots (port + 1) 0 0 none) me)
latches_at devices slots id me port within is_kernel size s kept wide at small =
    let found : ℕ = get_or s.words (port + 1) 0 in
    let w : View = record me.0 { latching = me.0.latching ++ found ∷ [] } in
    let old = read_before devices id port me w s kept at is_kernel is_kernel refl refl refl in
    let was = old.ports port within in (
      w,
      keeps,
      tt,
      reads devices id port me w s kept at is_kernel is_kernel refl refl refl record {
        ports = old.ports;
        latches = old.latches;
        latching = were_more (set s.views id w) me.0.latching found (subst (λ p. WasStored (set s.views id w) p found) (sym size) was) old.latching;
      },
      (was.0, refl),
    )

pub ends_latch_at : (devices slots id : ℕ) (me : Mine) (port : ℕ) → port < 4 → me.0.kernel ≡ true → length me.0.latching ≡ port
    → Allows (Keeps devices) slots id me (port + 1) (λ n. n) (EndsLatch (step slots (port + 1) 0 0 none) me)
ends_latch_at devices slots id me port within is_kernel size s kept wide at small =
    let found : ℕ = get_or s.words (port + 1) 0 in
    let w : View = record me.0 { latches = me.0.latches ++ (me.0.latching ++ found ∷ []) ∷ []; latching = [] } in
    let old = read_before devices id port me w s kept at is_kernel is_kernel refl refl refl in
    let was = old.ports port within in
    let after : List View = set s.views id w in (
      w,
      keeps,
      tt,
      reads devices id port me w s kept at is_kernel is_kernel refl refl refl record {
        ports = old.ports;
        latches = All-push (WereStored after) me.0.latches (me.0.latching ++ found ∷ []) old.latches (were_more after me.0.latching found (subst (λ p. WasStored after p found) (sym size) was) old.latching);
        latching = λ p h. absurd (omega arith);
      },
      (was.0, refl),
    )

device_stored : (t : Store) (v : View) → IsDevice v → IsDevice (with_store t v)
device_stored t v d = record {
  kernel = d.kernel;
  takes = d.takes;
  latches = d.latches;
  latching = d.latching;
  deeds = let e = d.deeds in omega (arith, length-map v.deeds (λ (e : Deeds). record e { stores = e.stores ++ t ∷ [] }));
}

counts_itself : (port value : ℕ) → cond {A = ℕ} ((port == port) && (value == value)) 1 0 ≡ 1
counts_itself port value = grind (arith, nat_tests)

-- a set
pub sets_at : (devices slots id : ℕ) (me : Mine) (port value : ℕ) → port < 4 → value < 2 ^ 32 → me.0.kernel ≡ false → (d : Deeds) → me.0.deeds ≡ d ∷ []
    → Allows (Keeps devices) slots id me (port + 1) (λ _. value) (λ _. Sets (step slots (port + 1) value 0 none) me value)
sets_at devices slots id me port value within fits not_kernel d single s kept wide at small =
    let five = kept.five in
    let t : Store = store_of port value in
    let w : View = with_store t me.0 in
    let after : List View = set s.views id w in
    let words : List ℕ = set s.words (port + 1) value in
    let same : (f : Deeds → ℕ) → ((e : Deeds) → f (record e { stores = e.stores ++ t ∷ [] }) ≡ f e) → in_all f after ≡ in_all f s.views = λ f e. all_same f s.views id me.0 w at (stored_same f t me.0 e) in
    let more : (p : Store → Bool) → in_all (λ e. count_by p e.stores) after ≡ in_all (λ e. count_by p e.stores) s.views + cond (p t) 1 0 = λ p. all_set (λ e. count_by p e.stores) s.views id me.0 w (cond (p t) 1 0) at (stored_more p t me.0 d single) in
    let grows : (p x : ℕ) → in_all (stored p x) s.views ≤ in_all (stored p x) after = λ p x. omega (arith, more (is_store p x)) in (
      w,
      keeps,
      tt,
      record {
        seat = kept.seat;
        kernel = kept.kernel;
        five = length-set s.words (port + 1) value ∙ kept.five;
        seated = device_steps devices kept.seat kept.kernel s.views kept.seated id me.0 at w not_kernel (device_stored t me.0) (λ k. stored_same (of_device k) t me.0 (λ e. refl));
        balanced = subst (λ x. IsBalanced kept.kernel.takes x after) (sym (get_or-set_other s.words (port + 1) 0 value 0 (λ e. omega arith)))
            (balance_stays kept.kernel.takes (get_or s.words 0 0) s.views after (λ p. same (λ e. count_by p e.raises) (λ e. refl)) kept.balanced);
        stored = record {
          ports = λ p h. port_set after s.words port value p (ℕ_discrete p port) (omega arith) (fits, inr (omega (arith, more (is_store port value), counts_itself port value))) (was_still s.views after grows p _ (kept.stored.ports p h));
          latches = latches_still s.views after grows kept.kernel.latches kept.stored.latches;
          latching = were_still s.views after grows kept.kernel.latching kept.stored.latching;
        };
        glances = glances_stay s.views after (λ l n. omega (arith, same (fresh l n) (λ e. refl))) (λ l n. same (seen l n) (λ e. refl)) (same missed (λ e. refl)) kept.glances;
      },
      (port, refl, refl),
    )

-- with the word and the value as the code has them
pub sets_by : (devices slots id : ℕ) (me : Mine) (port value word stored : ℕ) → word ≡ port + 1 → stored ≡ value → port < 4 → value < 2 ^ 32 → me.0.kernel ≡ false → (d : Deeds) → me.0.deeds ≡ d ∷ []
    → Allows (Keeps devices) slots id me word (λ _. stored) (λ _. Sets (step slots word stored 0 none) me stored)
sets_by devices slots id me port value word stored is same within fits not_kernel d single =
    let P : ℕ × ℕ → Type 0 = λ z. Allows (Keeps devices) slots id me z.0 (λ _. z.1) (λ _. Sets (step slots z.0 z.1 0 none) me z.1) in
    subst P (λ k. (sym is k, sym same k)) (sets_at devices slots id me port value within fits not_kernel d single)
