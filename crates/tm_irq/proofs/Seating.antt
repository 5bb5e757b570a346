-- Who sits where: a step of one seat leaves one kernel's view and each device in one place.
use Rattle.std.proofs.Common.{◌≡◌, ◌≢◌, ℕ, zero, suc, ◌<◌, true, false, List, [], ◌∷◌, set, sym, ap, ◌∙◌, subst, ⊎_elim, arith}
use mathlib.Core.Option.{some, some-injective, some-ne-none}
use native.Mathlib.Decide.{ℕ_discrete}
use lib.ListN.{get_elem?, length}
use Rattle.atomic_table.proofs.Lists.{at_set, set_here, set_else}
use Rattle.tm_irq.specs.declared.views.View.{View}
use Rattle.tm_irq.specs.Views.{in_view, of_device}
use Rattle.tm_irq.specs.Rule.{IsDevice, IsSeated}
use Rattle.tm_irq.proofs.Sums.{all_same}

pub there_within : {A : Type 0} (l : List A) (i : ℕ) (a : A) → get_elem? l i ≡ some a → i < length l
there_within [] i a e = absurd (some-ne-none a (sym e))
there_within (x ∷ xs) zero a e = omega arith
there_within (x ∷ xs) (suc i) a e = omega (arith, there_within xs i a e)

module _ (devices seat : ℕ) (kernel : View) (views : List View) (seated : IsSeated devices seat kernel views) (id : ℕ) (v : View) (at : get_elem? views id ≡ some v) where
  -- a view that isn't marked as the kernel's stands elsewhere
  pub elsewhere : v.kernel ≡ false → id ≢ seat
  elsewhere not e =
      let here : get_elem? views seat ≡ some v = subst (λ (i : ℕ). get_elem? views i ≡ some v) e at in
      let same : kernel ≡ v = some-injective kernel v (sym seated.there ∙ here) in
      let k = seated.is_kernel in
      let t : true ≡ false = sym k ∙ ap (λ (u : View). u.kernel) same ∙ not in
      absurd (cc)

  kernels_when : Dec (id ≡ seat) → v.kernel ≡ true → id ≡ seat
  kernels_when (yes e) is = e
  kernels_when (no ne) is = let d = seated.others id v at ne in let t : true ≡ false = sym is ∙ d.kernel in absurd (cc)

  -- and one that is marked so is the kernel's
  pub kernels_seat : v.kernel ≡ true → id ≡ seat
  kernels_seat is = kernels_when (ℕ_discrete id seat) is

  pub kernels_view : v.kernel ≡ true → v ≡ kernel
  kernels_view is = some-injective v kernel (sym at ∙ ap (λ (i : ℕ). get_elem? views i) (kernels_seat is) ∙ seated.there)

  pub others_stay : (w : View) → (id ≢ seat → IsDevice w) → (j : ℕ) (u : View) → get_elem? (set views id w) j ≡ some u → j ≢ seat → IsDevice u
  others_stay w one j u get ne = ⊎_elim
      (λ t. let is : id ≢ seat = λ e. ne (t.0 ∙ e) in subst IsDevice t.1 (one is))
      (λ t. seated.others j u t.1 ne)
      (at_set views id j w u get)

  -- a step of a device's seat
  pub device_steps : (w : View) → v.kernel ≡ false → (IsDevice v → IsDevice w) → ((d : ℕ) → in_view (of_device d) w ≡ in_view (of_device d) v)
      → IsSeated devices seat kernel (set views id w)
  device_steps w not device same = let away = elsewhere not in record {
    there = set_else views id seat w (λ e. away (sym e)) ∙ seated.there;
    is_kernel = seated.is_kernel;
    knows = seated.knows;
    others = others_stay w (λ ne. device (seated.others id v at ne));
    places = λ d. all_same (of_device d) views id v w at (same d) ∙ seated.places d;
  }

  -- a step of the kernel's seat
  pub kernel_steps : (w : View) → v.kernel ≡ true → w.kernel ≡ true → w.devices ≡ v.devices → ((d : ℕ) → in_view (of_device d) w ≡ in_view (of_device d) v)
      → IsSeated devices seat w (set views id w)
  kernel_steps w is still knows same = let here = kernels_seat is in let within : id < length views = there_within views id v at in record {
    there = subst (λ (i : ℕ). get_elem? (set views id w) i ≡ some w) here (set_here views id w within);
    is_kernel = still;
    knows = knows ∙ ap (λ (u : View). u.devices) (kernels_view is) ∙ seated.knows;
    others = others_stay w (λ ne. absurd (ne here));
    places = λ d. all_same (of_device d) views id v w at (same d) ∙ seated.places d;
  }
